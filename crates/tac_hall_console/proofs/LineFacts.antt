-- Lines of bytes to which more come.
use Rattle.std.proofs.Common.{◌≡◌, ◌<◌, ℕ, suc, Bool, true, false, cond, eqb, List, [], ◌∷◌, ◌++◌, length, Option, None, Some, refl, ap, subst, ◌∙◌, arith}
use Rattle.std.specs.Prelude.{◌||◌}
use Rattle.std.specs.Option.{option_map}
use Rattle.basics.specs.Lines.{split_at_first, onto_first, lines_of}
use Rattle.tac_hall_console.specs.Commands.{onto_ended, ended_lines, is_quit, commands, quits}

-- a byte before the first part
abbrev onto_parts : ℕ → Option (List ℕ × List ℕ) → Option (List ℕ × List ℕ)
onto_parts byte parts = option_map (λ parts. (byte ∷ parts.0, parts.1)) parts

abbrev split_if : Bool → ℕ → List ℕ → Option (List ℕ × List ℕ) → Option (List ℕ × List ℕ)
split_if here byte bytes parts = cond {A = Option (List ℕ × List ℕ)} here (Some ([], bytes)) (onto_parts byte parts)

same_parts : (a b : List ℕ × List ℕ) → Some a ≡ Some b → a ≡ b
same_parts a b e = cc

-- ---- bytes after

more_case : (here : Bool) (byte : ℕ) (a b x y : List ℕ) (parts later : Option (List ℕ × List ℕ))
    → ((p : List ℕ × List ℕ) → parts ≡ Some p → later ≡ Some (p.0, p.1 ++ b))
    → split_if here byte a parts ≡ Some (x, y) → split_if here byte (a ++ b) later ≡ Some (x, y ++ b)
more_case true byte a b x y parts later below h =
    let e = same_parts (([], a)) ((x, y)) h in
    ap (λ (p : List ℕ × List ℕ). Some (p.0, p.1 ++ b)) e
more_case false byte a b x y None later below h = absurd cc
more_case false byte a b x y (Some p) later below h =
    let e = same_parts ((byte ∷ p.0, p.1)) ((x, y)) h in
    ap (onto_parts byte) (below p refl) ∙ ap (λ (q : List ℕ × List ℕ). Some (q.0, q.1 ++ b)) e

-- where a line has ended, more bytes are added to what follows it
pub split_more : (a b x y : List ℕ) → split_at_first 10 a ≡ Some (x, y) → split_at_first 10 (a ++ b) ≡ Some (x, y ++ b)
split_more [] b x y h = absurd cc
split_more (byte ∷ a) b x y h =
    more_case (eqb byte 10) byte a b x y (split_at_first 10 a) (split_at_first 10 (a ++ b)) (λ p e. split_more a b p.0 p.1 e) h

-- ---- bytes before

after_case : (here : Bool) (byte : ℕ) (a all x y : List ℕ) (parts later : Option (List ℕ × List ℕ))
    → (parts ≡ None → later ≡ Some (a ++ x, y))
    → split_if here byte a parts ≡ None → split_if here byte all later ≡ Some (byte ∷ a ++ x, y)
after_case true byte a all x y parts later below h = absurd cc
after_case false byte a all x y None later below h = ap (onto_parts byte) (below refl)
after_case false byte a all x y (Some p) later below h = absurd cc

-- what had begun of a line is its front
pub split_after : (a b x y : List ℕ) → split_at_first 10 a ≡ None → split_at_first 10 b ≡ Some (x, y) → split_at_first 10 (a ++ b) ≡ Some (a ++ x, y)
split_after [] b x y e h = h
split_after (byte ∷ a) b x y e h =
    after_case (eqb byte 10) byte a (a ++ b) x y (split_at_first 10 a) (split_at_first 10 (a ++ b)) (λ none. split_after a b x y none h) e

open_case : (here : Bool) (byte : ℕ) (a all : List ℕ) (parts later : Option (List ℕ × List ℕ))
    → (parts ≡ None → later ≡ None) → split_if here byte a parts ≡ None → split_if here byte all later ≡ None
open_case true byte a all parts later below h = absurd cc
open_case false byte a all None later below h = ap (onto_parts byte) (below refl)
open_case false byte a all (Some p) later below h = absurd cc

pub open_more : (a b : List ℕ) → split_at_first 10 a ≡ None → split_at_first 10 b ≡ None → split_at_first 10 (a ++ b) ≡ None
open_more [] b e h = h
open_more (byte ∷ a) b e h =
    open_case (eqb byte 10) byte a (a ++ b) (split_at_first 10 a) (split_at_first 10 (a ++ b)) (λ none. open_more a b none h) e

-- ---- lines

abbrev lines_if : (ℕ → List (List ℕ) → List (List ℕ)) → Bool → ℕ → List (List ℕ) → List (List ℕ)
lines_if onto here byte lines = cond here ([] ∷ lines) (onto byte lines)

split_case : (F : List ℕ → List (List ℕ)) (onto : ℕ → List (List ℕ) → List (List ℕ))
    → ((byte : ℕ) (line : List ℕ) (lines : List (List ℕ)) → onto byte (line ∷ lines) ≡ (byte ∷ line) ∷ lines)
    → (here : Bool) (byte : ℕ) (bytes line rest : List ℕ) (parts : Option (List ℕ × List ℕ))
    → ((p : List ℕ × List ℕ) → parts ≡ Some p → F bytes ≡ p.0 ∷ F p.1)
    → split_if here byte bytes parts ≡ Some (line, rest) → lines_if onto here byte (F bytes) ≡ line ∷ F rest
split_case F onto puts true byte bytes line rest parts below h =
    let e = same_parts (([], bytes)) ((line, rest)) h in
    ap (λ (p : List ℕ × List ℕ). p.0 ∷ F p.1) e
split_case F onto puts false byte bytes line rest None below h = absurd cc
split_case F onto puts false byte bytes line rest (Some p) below h =
    let e = same_parts ((byte ∷ p.0, p.1)) ((line, rest)) h in
    ap (onto byte) (below p refl) ∙ puts byte p.0 (F p.1) ∙ ap (λ (q : List ℕ × List ℕ). q.0 ∷ F q.1) e

-- a line that ended is the first
pub lines_split : (bytes line rest : List ℕ) → split_at_first 10 bytes ≡ Some (line, rest) → lines_of bytes ≡ line ∷ lines_of rest
lines_split [] line rest h = absurd cc
lines_split (byte ∷ bytes) line rest h =
    split_case lines_of onto_first (λ byte line lines. refl) (eqb byte 10) byte bytes line rest (split_at_first 10 bytes) (λ p e. lines_split bytes p.0 p.1 e) h

pub ended_split : (bytes line rest : List ℕ) → split_at_first 10 bytes ≡ Some (line, rest) → ended_lines bytes ≡ line ∷ ended_lines rest
ended_split [] line rest h = absurd cc
ended_split (byte ∷ bytes) line rest h =
    split_case ended_lines onto_ended (λ byte line lines. refl) (eqb byte 10) byte bytes line rest (split_at_first 10 bytes) (λ p e. ended_split bytes p.0 p.1 e) h

none_case : (onto : ℕ → List (List ℕ) → List (List ℕ)) (here : Bool) (byte : ℕ) (bytes : List ℕ) (parts : Option (List ℕ × List ℕ)) (lines wanted : List (List ℕ))
    → (parts ≡ None → onto byte lines ≡ wanted) → split_if here byte bytes parts ≡ None → lines_if onto here byte lines ≡ wanted
none_case onto true byte bytes parts lines wanted below h = absurd cc
none_case onto false byte bytes None lines wanted below h = below refl
none_case onto false byte bytes (Some p) lines wanted below h = absurd cc

-- without an end no line has ended
pub ended_open : (bytes : List ℕ) → split_at_first 10 bytes ≡ None → ended_lines bytes ≡ []
ended_open [] h = refl
ended_open (byte ∷ bytes) h =
    none_case onto_ended (eqb byte 10) byte bytes (split_at_first 10 bytes) (ended_lines bytes) [] (λ none. ap (onto_ended byte) (ended_open bytes none)) h

-- and there is one line at most
pub lines_open : (byte : ℕ) (bytes : List ℕ) → split_at_first 10 (byte ∷ bytes) ≡ None → lines_of (byte ∷ bytes) ≡ (byte ∷ bytes) ∷ []
lines_open byte [] h = none_case onto_first (eqb byte 10) byte [] None [] ((byte ∷ []) ∷ []) (λ none. refl) h
lines_open byte (next ∷ bytes) h =
    none_case onto_first (eqb byte 10) byte (next ∷ bytes) (split_at_first 10 (next ∷ bytes)) (lines_of (next ∷ bytes)) ((byte ∷ next ∷ bytes) ∷ [])
    (λ none. ap (onto_first byte) (lines_open next bytes none)) h

shorter_case : (here : Bool) (byte : ℕ) (bytes line rest : List ℕ) (parts : Option (List ℕ × List ℕ))
    → ((p : List ℕ × List ℕ) → parts ≡ Some p → length p.1 < length bytes)
    → split_if here byte bytes parts ≡ Some (line, rest) → length rest < suc (length bytes)
shorter_case true byte bytes line rest parts below h =
    let e = same_parts (([], bytes)) ((line, rest)) h in
    subst (λ (p : List ℕ × List ℕ). length p.1 < suc (length bytes)) e (omega arith)
shorter_case false byte bytes line rest None below h = absurd cc
shorter_case false byte bytes line rest (Some p) below h =
    let e = same_parts ((byte ∷ p.0, p.1)) ((line, rest)) h in
    let less = below p refl in
    subst (λ (q : List ℕ × List ℕ). length q.1 < suc (length bytes)) e (omega arith)

-- less is left after a line
pub split_shorter : (bytes line rest : List ℕ) → split_at_first 10 bytes ≡ Some (line, rest) → length rest < length bytes
split_shorter [] line rest h = absurd cc
split_shorter (byte ∷ bytes) line rest h =
    shorter_case (eqb byte 10) byte bytes line rest (split_at_first 10 bytes) (λ p e. split_shorter bytes p.0 p.1 e) h

-- ---- commands

pub command_first : (line : List ℕ) (lines : List (List ℕ)) → is_quit line ≡ false → commands (line ∷ lines) ≡ line ∷ commands lines
command_first line lines other = rw other refl

pub quits_later : (line : List ℕ) (lines : List (List ℕ)) → is_quit line ≡ false → quits (line ∷ lines) ≡ quits lines
quits_later line lines other = rw other refl

pub no_command : (line : List ℕ) (lines : List (List ℕ)) → is_quit line ≡ true → commands (line ∷ lines) ≡ []
no_command line lines quit = rw quit refl

pub quits_here : (line : List ℕ) (lines : List (List ℕ)) → is_quit line ≡ true → quits (line ∷ lines) ≡ true
quits_here line lines quit = rw quit refl

-- ---- a last line that has not ended

last_case : (here : Bool) (byte : ℕ) (lines ended : List (List ℕ)) → (last : List (List ℕ)) × (lines ≡ ended ++ last)
    → (last : List (List ℕ)) × (lines_if onto_first here byte lines ≡ lines_if onto_ended here byte ended ++ last)
last_case true byte lines ended below = (below.0, ap (λ (l : List (List ℕ)). [] ∷ l) below.1)
last_case false byte lines [] below = (onto_first byte lines, refl)
last_case false byte lines (line ∷ ended) below = (below.0, ap (onto_first byte) below.1)

-- it comes after those that have
lines_last : (bytes : List ℕ) → (last : List (List ℕ)) × (lines_of bytes ≡ ended_lines bytes ++ last)
lines_last [] = ([], refl)
lines_last (byte ∷ bytes) = last_case (eqb byte 10) byte (lines_of bytes) (ended_lines bytes) (lines_last bytes)

commands_case : (quit : Bool) (line : List ℕ) (all some : List (List ℕ)) → (more : List (List ℕ)) × (all ≡ some ++ more)
    → (more : List (List ℕ)) × (cond quit [] (line ∷ all) ≡ cond quit [] (line ∷ some) ++ more)
commands_case true line all some below = ([], refl)
commands_case false line all some below = (below.0, ap (λ (l : List (List ℕ)). line ∷ l) below.1)

commands_more : (lines last : List (List ℕ)) → (more : List (List ℕ)) × (commands (lines ++ last) ≡ commands lines ++ more)
commands_more [] last = (commands last, refl)
commands_more (line ∷ lines) last = commands_case (is_quit line) line (commands (lines ++ last)) (commands lines) (commands_more lines last)

quit_case : (quit : Bool) (line : List ℕ) (all some : List (List ℕ)) (later : Bool) → (later ≡ true → all ≡ some) → (quit || later) ≡ true
    → cond {A = List (List ℕ)} quit [] (line ∷ all) ≡ cond quit [] (line ∷ some)
quit_case true line all some later below h = refl
quit_case false line all some later below h = ap (λ (l : List (List ℕ)). line ∷ l) (below h)

quits_case : (quit all some : Bool) → (some ≡ true → all ≡ true) → (quit || some) ≡ true → (quit || all) ≡ true
quits_case true all some below h = refl
quits_case false all some below h = below h

quit_first : (lines last : List (List ℕ)) → quits lines ≡ true → commands (lines ++ last) ≡ commands lines
quit_first [] last h = absurd cc
quit_first (line ∷ lines) last h = quit_case (is_quit line) line (commands (lines ++ last)) (commands lines) (quits lines) (quit_first lines last) h

pub commands_last : (bytes : List ℕ) → (more : List (List ℕ)) × (commands (lines_of bytes) ≡ commands (ended_lines bytes) ++ more)
commands_last bytes =
    let all = lines_last bytes in
    let more = commands_more (ended_lines bytes) all.0 in
    (more.0, ap commands all.1 ∙ more.1)

-- after a `quit` it is no command
pub commands_quit : (bytes : List ℕ) → quits (ended_lines bytes) ≡ true → commands (lines_of bytes) ≡ commands (ended_lines bytes)
commands_quit bytes quit = let all = lines_last bytes in ap commands all.1 ∙ quit_first (ended_lines bytes) all.0 quit

still_quits : (lines last : List (List ℕ)) → quits lines ≡ true → quits (lines ++ last) ≡ true
still_quits [] last h = absurd cc
still_quits (line ∷ lines) last h = quits_case (is_quit line) (quits (lines ++ last)) (quits lines) (still_quits lines last) h

-- and whatever follows it, the lines still have it
pub quits_ended : (bytes : List ℕ) → quits (ended_lines bytes) ≡ true → quits (lines_of bytes) ≡ true
quits_ended bytes quit = let all = lines_last bytes in ap quits all.1 ∙ still_quits (ended_lines bytes) all.0 quit
