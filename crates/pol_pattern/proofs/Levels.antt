-- Steps of building, token by token.
use Rattle.std.proofs.Common.{◌≡◌, ℕ, ◌+◌, ◌<◌, ◌≤◌, List, [], ◌∷◌, ◌++◌, length, get_or, drop, refl, sym, ap, ◌∙◌, arith, length-append}
use Rattle.std.proofs.lemmas.List.{at_drop_more, at_drop_all, same_from_push}
use Rattle.pol_pattern.specs.Flat.{Class, class, group, empty, put, Terms}
use Rattle.pol_pattern.specs.Reading.{Level, fresh, with_atom, with_repeat, with_bar, finished, build}
use Rattle.pol_pattern.specs.declared.token.Repeat.{Repeat}
use Rattle.pol_pattern.specs.declared.token.Token.{Token}
use Rattle.pol_pattern.specs.declared.token.Token.TheVariants as tokens

-- the levels around, as they lie on a stack: the innermost is last
abbrev pub stacked : {A : Type 0} → (Level → A) → List Level → List A
stacked view [] = []
stacked view (level ∷ outer) = stacked view outer ++ view level ∷ []

next_is : (level : Level) (outer : List Level) (list : List Token) (i : ℕ) (d token : Token) (total : Terms) → i < length list → get_or list i d ≡ token
    → build level outer (drop i list) ≡ total → build level outer (token ∷ drop (i + 1) list) ≡ total
next_is level outer list i d token total lt is so_far =
    ap (λ (t : Token). build level outer (t ∷ drop (i + 1) list)) (sym is) ∙ sym (at_drop_more (build level outer) list i d lt) ∙ so_far

pub atom_step : (level : Level) (outer : List Level) (list : List Token) (i : ℕ) (d : Token) (c : Class) (total : Terms) → i < length list → get_or list i d ≡ tokens.Atom c
    → build level outer (drop i list) ≡ total → build (with_atom level (put (class c) empty)) outer (drop (i + 1) list) ≡ total
unfolding build
atom_step level outer list i d c total lt is so_far = next_is level outer list i d (tokens.Atom c) total lt is so_far

pub repeat_step : (level : Level) (outer : List Level) (list : List Token) (i : ℕ) (d : Token) (repeat : Repeat) (total : Terms) → i < length list → get_or list i d ≡ tokens.Repeat repeat
    → build level outer (drop i list) ≡ total → build (with_repeat level repeat) outer (drop (i + 1) list) ≡ total
unfolding build
repeat_step level outer list i d repeat total lt is so_far = next_is level outer list i d (tokens.Repeat repeat) total lt is so_far

pub bar_step : (level : Level) (outer : List Level) (list : List Token) (i : ℕ) (d : Token) (total : Terms) → i < length list → get_or list i d ≡ tokens.Bar
    → build level outer (drop i list) ≡ total → build (with_bar level) outer (drop (i + 1) list) ≡ total
unfolding build
bar_step level outer list i d total lt is so_far = next_is level outer list i d tokens.Bar total lt is so_far

pub open_step : (level : Level) (outer : List Level) (list : List Token) (i : ℕ) (d : Token) (total : Terms) → i < length list → get_or list i d ≡ tokens.Open
    → build level outer (drop i list) ≡ total → build fresh (level ∷ outer) (drop (i + 1) list) ≡ total
unfolding build
open_step level outer list i d total lt is so_far = next_is level outer list i d tokens.Open total lt is so_far

pub close_step : (level around : Level) (outer : List Level) (list : List Token) (i : ℕ) (d : Token) (total : Terms) → i < length list → get_or list i d ≡ tokens.Close
    → build level (around ∷ outer) (drop i list) ≡ total → build (with_atom around (put (group (finished level)) empty)) outer (drop (i + 1) list) ≡ total
unfolding build
close_step level around outer list i d total lt is so_far = next_is level (around ∷ outer) list i d tokens.Close total lt is so_far

pub stray_close : (level : Level) (list : List Token) (i : ℕ) (d : Token) (total : Terms) → i < length list → get_or list i d ≡ tokens.Close
    → build level [] (drop i list) ≡ total → finished level ≡ total
unfolding build
stray_close level list i d total lt is so_far = next_is level [] list i d tokens.Close total lt is so_far

pub at_end_of_tokens : (level : Level) (outer : List Level) (list : List Token) (i : ℕ) (total : Terms) → length list ≤ i → build level outer (drop i list) ≡ total → finished level ≡ total
unfolding build
at_end_of_tokens level outer list i total le so_far = sym (at_drop_all (build level outer) list i le) ∙ so_far

-- the stack after its last level is taken
pub popped : {A : Type 0} (view : Level → A) (outer : List Level) (rest : List A) (last : A) → rest ++ last ∷ [] ≡ stacked view outer
    → (around : Level) × (others : List Level) × (outer ≡ around ∷ others) × (last ≡ view around) × (rest ≡ stacked view others)
popped view [] [] last is = absurd cc
popped view [] (x ∷ rest) last is = absurd cc
popped view (around ∷ others) rest last is =
    let same = same_from_push rest (stacked view others) last (view around) is in (around, others, refl, same.1, same.0)

pub none_around : {A : Type 0} (view : Level → A) (outer : List Level) → [] ≡ stacked view outer → outer ≡ []
none_around view [] is = refl
none_around view (around ∷ others) is = absurd (omega (arith, ap length is, length-append (stacked view others) (view around ∷ [])))
