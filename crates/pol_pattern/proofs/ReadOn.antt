-- Reading on from a place: the tokens of the rest, built into the levels that are open.
use Rattle.std.proofs.Common.{◌≡◌, ℕ, suc, ◌+◌, ◌-◌, ◌≤◌, ◌<◌, Bool, true, false, List, [], ◌∷◌, ◌++◌, length, Result, Ok, Err, refl, ap, ◌∙◌, arith}
use Rattle.std.proofs.lemmas.Bool.{le-leb, lt-leb}
use Rattle.pol_pattern.specs.declared.version.Version.{Version}
use Rattle.pol_pattern.specs.declared.token.Repeat.{Repeat}
use Rattle.pol_pattern.specs.declared.token.Token.{Token}
use Rattle.pol_pattern.specs.declared.token.Token.TheVariants as tokens
use Rattle.pol_pattern.specs.declared.fault.PatternFault.{PatternFault}
use Rattle.pol_pattern.specs.declared.fault.PatternFault.TheVariants as faults
use Rattle.pol_pattern.specs.Flat.{Class, class, group, empty, put, Terms}
use Rattle.pol_pattern.specs.Reading.{◌>>=◌, token_at, Context, context_after, tokens_from, Level, fresh, with_atom, with_repeat, with_bar, finished, build}

abbrev pub context_of : List ℕ → Bool → Context
context_of opened flag = record { opened = opened; has_atom = flag }

abbrev pub built : Level → List Level → Result (List Token) PatternFault → Result Terms PatternFault
built level outer read = read >>= λ tokens. Ok (build level outer tokens)

-- at a place, with bytes to pass over, the parentheses that are open, and whether an atom stands before
abbrev pub read_on : Version → ℕ → ℕ → List ℕ → Bool → Level → List Level → List ℕ → Result Terms PatternFault
read_on version place skip opened flag level outer bytes = built level outer (tokens_from version place skip (context_of opened flag) bytes)

-- a token at the front changes the levels
joined : (token : Token) (level next : Level) (outer others : List Level) → ((rest : List Token) → build level outer (token ∷ rest) ≡ build next others rest)
    → (read : Result (List Token) PatternFault) → built level outer (read >>= λ rest. Ok (token ∷ rest)) ≡ built next others read
joined token level next outer others same (Ok rest) = ap (λ (t : Terms). Ok t) (same rest)
joined token level next outer others same (Err fault) = refl

pub read_atom : (version : Version) (place byte size : ℕ) (rest opened : List ℕ) (flag : Bool) (level : Level) (outer : List Level) (c : Class) → token_at version flag place byte rest ≡ Ok (tokens.Atom c, suc size)
    → read_on version place 0 opened flag level outer (byte ∷ rest) ≡ read_on version (place + 1) size opened true (with_atom level (put (class c) empty)) outer rest
unfolding tokens_from context_after build
read_atom version place byte size rest opened flag level outer c e =
    let skip : suc size - 1 ≡ size = omega arith in
    rw (e, skip) (joined (tokens.Atom c) level (with_atom level (put (class c) empty)) outer outer (λ rest. refl) (tokens_from version (place + 1) size (context_of opened true) rest))

pub read_repeat : (version : Version) (place byte size : ℕ) (rest opened : List ℕ) (level : Level) (outer : List Level) (repeat : Repeat) → token_at version true place byte rest ≡ Ok (tokens.Repeat repeat, suc size)
    → read_on version place 0 opened true level outer (byte ∷ rest) ≡ read_on version (place + 1) size opened true (with_repeat level repeat) outer rest
unfolding tokens_from context_after build
read_repeat version place byte size rest opened level outer repeat e =
    let skip : suc size - 1 ≡ size = omega arith in
    rw (e, skip) (joined (tokens.Repeat repeat) level (with_repeat level repeat) outer outer (λ rest. refl) (tokens_from version (place + 1) size (context_of opened true) rest))

pub read_bar : (version : Version) (place : ℕ) (rest opened : List ℕ) (flag : Bool) (level : Level) (outer : List Level)
    → read_on version place 0 opened flag level outer (124 ∷ rest) ≡ read_on version (place + 1) 0 opened false (with_bar level) outer rest
unfolding tokens_from context_after build token_at
read_bar version place rest opened flag level outer =
    joined tokens.Bar level (with_bar level) outer outer (λ rest. refl) (tokens_from version (place + 1) 0 (context_of opened false) rest)

pub read_open : (version : Version) (place : ℕ) (rest opened : List ℕ) (flag : Bool) (level : Level) (outer : List Level) → length opened < 32
    → read_on version place 0 opened flag level outer (40 ∷ rest) ≡ read_on version (place + 1) 0 (place ∷ opened) false fresh (level ∷ outer) rest
unfolding tokens_from context_after build token_at
read_open version place rest opened flag level outer few =
    rw (lt-leb 32 (length opened) few) (joined tokens.Open level fresh outer (level ∷ outer) (λ rest. refl) (tokens_from version (place + 1) 0 (context_of (place ∷ opened) false) rest))

pub read_too_deep : (version : Version) (place : ℕ) (rest opened : List ℕ) (flag : Bool) (level : Level) (outer : List Level) → 32 ≤ length opened
    → read_on version place 0 opened flag level outer (40 ∷ rest) ≡ Err faults.TooDeep
unfolding tokens_from context_after token_at
read_too_deep version place rest opened flag level outer many = rw (le-leb 32 (length opened) many) refl

pub read_close : (version : Version) (place last : ℕ) (rest opened : List ℕ) (flag : Bool) (level around : Level) (outer : List Level)
    → read_on version place 0 (last ∷ opened) flag level (around ∷ outer) (41 ∷ rest) ≡ read_on version (place + 1) 0 opened true (with_atom around (put (group (finished level)) empty)) outer rest
unfolding tokens_from context_after build token_at
read_close version place last rest opened flag level around outer =
    joined tokens.Close level (with_atom around (put (group (finished level)) empty)) (around ∷ outer) outer (λ rest. refl) (tokens_from version (place + 1) 0 (context_of opened true) rest)

-- bytes that belong to a token before them are passed over
pub tokens_past : (version : Version) (taken rest : List ℕ) (place : ℕ) (context : Context) → tokens_from version place (length taken) context (taken ++ rest) ≡ tokens_from version (place + length taken) 0 context rest
unfolding tokens_from
tokens_past version [] rest place context = ap (λ (p : ℕ). tokens_from version p 0 context rest) (omega arith)
tokens_past version (byte ∷ taken) rest place context =
    tokens_past version taken rest (place + 1) context ∙ ap (λ (p : ℕ). tokens_from version p 0 context rest) (omega arith)
