-- Splitting at a place, and the lines of a text.
use Rattle.std.proofs.Common.{◌≡◌, ◌≢◌, ℕ, zero, suc, ◌+◌, ◌<◌, ◌≤◌, Bool, true, false, cond, eqb, List, [], ◌∷◌, ◌++◌, length, get_or, take, drop, Option, None, Some, refl, sym, ap, ◌∙◌, append-nil, append_assoc, arith, eq-eqb, eqb-true}
use Rattle.std.specs.Option.{option_map}
use Rattle.std.proofs.lemmas.Bool.Decides.{nat_tests}
use Rattle.std.proofs.lemmas.List.{take_more, drop_more, drop_all}
use Rattle.memchr.specs.Find.{IsFirstByte, is_byte}
use Rattle.basics.specs.Lines.{split_at_first, onto_first, lines_of}

-- parts with this before the first of them
abbrev pub after : List ℕ → Option (List ℕ × List ℕ) → Option (List ℕ × List ℕ)
after front parts = option_map (λ parts. (front ++ parts.0, parts.1)) parts

pub after-nil : (parts : Option (List ℕ × List ℕ)) → after [] parts ≡ parts
after-nil None = refl
after-nil (Some parts) = refl

after-more : (front : List ℕ) (byte : ℕ) (parts : Option (List ℕ × List ℕ)) → after front (option_map (λ parts. (byte ∷ parts.0, parts.1)) parts) ≡ after (front ++ byte ∷ []) parts
after-more front byte None = refl
after-more front byte (Some parts) = ap (λ (text : List ℕ). Some (text, parts.1)) (sym (append_assoc front (byte ∷ []) parts.0))

at_separator : (separator byte : ℕ) (bytes : List ℕ) → byte ≡ separator → split_at_first separator (byte ∷ bytes) ≡ Some ([], bytes)
at_separator separator byte bytes e = rw (eq-eqb byte separator e) refl

past_other : (separator byte : ℕ) (bytes : List ℕ) → byte ≢ separator → split_at_first separator (byte ∷ bytes) ≡ option_map (λ parts. (byte ∷ parts.0, parts.1)) (split_at_first separator bytes)
past_other separator byte bytes ne =
    let other : eqb byte separator ≡ false = grind (arith, nat_tests) in
    rw other refl

-- one byte on that is no separator
pub after_step : (separator byte at : ℕ) (bytes : List ℕ) → at < length bytes → byte ≡ get_or bytes at 0 → byte ≢ separator
    → after (take (at + 1) bytes) (split_at_first separator (drop (at + 1) bytes)) ≡ after (take at bytes) (split_at_first separator (drop at bytes))
after_step separator byte at bytes lt is ne =
    let here : drop at bytes ≡ byte ∷ drop (at + 1) bytes = drop_more bytes at 0 lt ∙ ap (λ (b : ℕ). b ∷ drop (at + 1) bytes) (sym is) in
    let front : take (at + 1) bytes ≡ take at bytes ++ byte ∷ [] = take_more bytes at 0 lt ∙ ap (λ (b : ℕ). take at bytes ++ b ∷ []) (sym is) in
    rw (front, here, past_other separator byte (drop (at + 1) bytes) ne) (sym (after-more (take at bytes) byte (split_at_first separator (drop (at + 1) bytes))))

-- at a separator
pub after_found : (separator byte at : ℕ) (bytes : List ℕ) → at < length bytes → byte ≡ get_or bytes at 0 → byte ≡ separator
    → after (take at bytes) (split_at_first separator (drop at bytes)) ≡ Some (take at bytes, drop (at + 1) bytes)
after_found separator byte at bytes lt is e =
    let here : drop at bytes ≡ byte ∷ drop (at + 1) bytes = drop_more bytes at 0 lt ∙ ap (λ (b : ℕ). b ∷ drop (at + 1) bytes) (sym is) in
    rw (here, at_separator separator byte (drop (at + 1) bytes) e, append-nil (take at bytes)) refl

-- past so many bytes, none of which is a separator
pub after_others : (separator at : ℕ) (bytes : List ℕ) → at ≤ length bytes → ((k : ℕ) → k < at → get_or bytes k 0 ≢ separator)
    → after (take at bytes) (split_at_first separator (drop at bytes)) ≡ split_at_first separator bytes
after_others separator zero bytes le others = after-nil (split_at_first separator bytes)
after_others separator (suc at) bytes le others =
    let next : suc at ≡ at + 1 = omega arith in
    let last = after_step separator (get_or bytes at 0) at bytes (omega arith) refl (others at (omega arith)) in
    ap (λ (n : ℕ). after (take n bytes) (split_at_first separator (drop n bytes))) next ∙ last ∙ after_others separator at bytes (omega arith) (λ k lt. others k (omega arith))

-- where the first separator stands
pub parts_at : (separator : ℕ) (bytes : List ℕ) (at : ℕ) → IsFirstByte (is_byte separator) bytes (Some at) → Some (take at bytes, drop (at + 1) bytes) ≡ split_at_first separator bytes
parts_at separator bytes at first =
    sym (after_found separator (get_or bytes at 0) at bytes first.0.high refl (eqb-true _ _ first.1))
    ∙ after_others separator at bytes (omega (arith, first.0.high)) (λ k lt is. first.0.before k (omega arith) lt (eq-eqb _ _ is))

pub no_parts : (separator : ℕ) (bytes : List ℕ) → IsFirstByte (is_byte separator) bytes None → None ≡ split_at_first separator bytes
no_parts separator bytes nowhere =
    let past = after_others separator (length bytes) bytes (omega arith) (λ k lt is. nowhere k (omega arith) lt (eq-eqb _ _ is)) in
    let all : drop (length bytes) bytes ≡ [] = drop_all (length bytes) bytes (omega arith) in
    let none : after (take (length bytes) bytes) (split_at_first separator (drop (length bytes) bytes)) ≡ None = rw all refl in
    sym none ∙ past

same_parts : (a b : List ℕ × List ℕ) → Some a ≡ Some b → a ≡ b
same_parts a b e = cc

split_case : (byte : ℕ) (bytes line rest : List ℕ) (b : Bool) (parts : Option (List ℕ × List ℕ)) → ((p : List ℕ × List ℕ) → parts ≡ Some p → lines_of bytes ≡ p.0 ∷ lines_of p.1)
    → cond {A = Option (List ℕ × List ℕ)} b (Some ([], bytes)) (option_map (λ parts. (byte ∷ parts.0, parts.1)) parts) ≡ Some (line, rest)
    → cond b ([] ∷ lines_of bytes) (onto_first byte (lines_of bytes)) ≡ line ∷ lines_of rest
split_case byte bytes line rest true parts below h =
    let e = same_parts ([], bytes) (line, rest) h in
    ap (λ (p : List ℕ × List ℕ). p.0 ∷ lines_of p.1) e
split_case byte bytes line rest false None below h = absurd cc
split_case byte bytes line rest false (Some p) below h =
    let e = same_parts (byte ∷ p.0, p.1) (line, rest) h in
    ap (onto_first byte) (below p refl) ∙ ap (λ (q : List ℕ × List ℕ). q.0 ∷ lines_of q.1) e

-- a text with a separator has the line before it, and the lines after it
pub lines_of-split : (bytes line rest : List ℕ) → split_at_first 10 bytes ≡ Some (line, rest) → lines_of bytes ≡ line ∷ lines_of rest
lines_of-split [] line rest h = absurd cc
lines_of-split (byte ∷ bytes) line rest h = split_case byte bytes line rest (eqb byte 10) (split_at_first 10 bytes) (λ p e. lines_of-split bytes p.0 p.1 e) h

whole_case : (byte : ℕ) (bytes : List ℕ) (b : Bool) (parts : Option (List ℕ × List ℕ)) → (parts ≡ None → onto_first byte (lines_of bytes) ≡ (byte ∷ bytes) ∷ [])
    → cond {A = Option (List ℕ × List ℕ)} b (Some ([], bytes)) (option_map (λ parts. (byte ∷ parts.0, parts.1)) parts) ≡ None
    → cond b ([] ∷ lines_of bytes) (onto_first byte (lines_of bytes)) ≡ (byte ∷ bytes) ∷ []
whole_case byte bytes true parts below h = absurd cc
whole_case byte bytes false None below h = below refl
whole_case byte bytes false (Some p) below h = absurd cc

-- a text without one is one line
pub lines_of-whole : (byte : ℕ) (bytes : List ℕ) → split_at_first 10 (byte ∷ bytes) ≡ None → lines_of (byte ∷ bytes) ≡ (byte ∷ bytes) ∷ []
lines_of-whole byte [] h = whole_case byte [] (eqb byte 10) None (λ e. refl) h
lines_of-whole byte (next ∷ bytes) h =
    whole_case byte (next ∷ bytes) (eqb byte 10) (split_at_first 10 (next ∷ bytes)) (λ e. ap (onto_first byte) (lines_of-whole next bytes e)) h

pub lines_of-one : (text : List ℕ) → text ≢ [] → split_at_first 10 text ≡ None → lines_of text ≡ text ∷ []
lines_of-one [] ne h = absurd (ne refl)
lines_of-one (byte ∷ bytes) ne h = lines_of-whole byte bytes h

joined_case : (separator byte : ℕ) (bytes line rest : List ℕ) (b : Bool) (parts : Option (List ℕ × List ℕ)) → (b ≡ true → byte ≡ separator)
    → ((p : List ℕ × List ℕ) → parts ≡ Some p → bytes ≡ p.0 ++ separator ∷ p.1)
    → cond {A = Option (List ℕ × List ℕ)} b (Some ([], bytes)) (option_map (λ parts. (byte ∷ parts.0, parts.1)) parts) ≡ Some (line, rest)
    → byte ∷ bytes ≡ line ++ separator ∷ rest
joined_case separator byte bytes line rest true parts same below h =
    let e = same_parts ([], bytes) (line, rest) h in
    ap (λ (b : ℕ). b ∷ bytes) (same refl) ∙ ap (λ (p : List ℕ × List ℕ). p.0 ++ separator ∷ p.1) e
joined_case separator byte bytes line rest false None same below h = absurd cc
joined_case separator byte bytes line rest false (Some p) same below h =
    let e = same_parts (byte ∷ p.0, p.1) (line, rest) h in
    ap (λ (t : List ℕ). byte ∷ t) (below p refl) ∙ ap (λ (q : List ℕ × List ℕ). q.0 ++ separator ∷ q.1) e

is_separator : (byte separator : ℕ) → eqb byte separator ≡ true → byte ≡ separator
is_separator byte separator e = grind (arith, nat_tests)

-- the parts with the separator between them are the text
pub parts_joined : (separator : ℕ) (bytes line rest : List ℕ) → split_at_first separator bytes ≡ Some (line, rest) → bytes ≡ line ++ separator ∷ rest
parts_joined separator [] line rest h = absurd cc
parts_joined separator (byte ∷ bytes) line rest h =
    joined_case separator byte bytes line rest (eqb byte separator) (split_at_first separator bytes) (is_separator byte separator) (λ p e. parts_joined separator bytes p.0 p.1 e) h
