-- Steps of a reading, one after another.
use Rattle.std.proofs.Common.{◌≡◌, ℕ, zero, suc, ◌+◌, ◌-◌, ◌<◌, ◌≤◌, Bool, true, false, eqb, cond, List, [], ◌∷◌, length, drop, get_or, Result, Err, refl, sym, ap, ◌∙◌, arith}
use Rattle.std.proofs.lemmas.Bool.{le-ltb, lt-ltb, eqb-true}
use Rattle.basics.specs.Memory.{Except}
use Rattle.posix_expression.specs.declared.unsaid.Unsaid.{Unsaid}
use Rattle.posix_expression.specs.declared.unsaid.Unsaid.TheVariants as why
use Rattle.posix_expression.specs.Syntax.{Expression}
use Rattle.posix_expression.specs.Memory.{is_memory}
use Rattle.posix_expression.specs.Reading.{◌>>=◌, State, start, step, ended, read_within, reading}
use Rattle.posix_expression.proofs.Steps.{given, refused}

pub too_long : (text : List ℕ) → 400 < length text → reading text ≡ Err why.TooLong
unfolding reading
too_long text more = ap (λ (b : Bool). cond b (Err why.TooLong) (read_within (length text) start text)) (lt-ltb 400 (length text) more)

pub short_enough : (text : List ℕ) → length text ≤ 400 → reading text ≡ read_within (length text) start text
unfolding reading
short_enough text le = ap (λ (b : Bool). cond b (Err why.TooLong) (read_within (length text) start text)) (le-ltb 400 (length text) le)

pub turn : (n i : ℕ) (state : State) (rest : List ℕ) (total : Result Expression Unsaid) → i < n → read_within (n - i) state rest ≡ total → read_within (suc (n - (i + 1))) state rest ≡ total
turn n i state rest total lt inv =
    let one_fewer : suc (n - (i + 1)) ≡ n - i = omega arith in
    ap (λ (m : ℕ). read_within m state rest) one_fewer ∙ inv

empty_ends : (most : ℕ) (state : State) → read_within most state [] ≡ ended state
unfolding read_within
empty_ends zero state = refl
empty_ends (suc most) state = refl

is_nil : (rest : List ℕ) → eqb (length rest) 0 ≡ true → rest ≡ []
is_nil [] h = refl
is_nil (byte ∷ rest) h = let none : length (byte ∷ rest) ≡ 0 = eqb-true (length (byte ∷ rest)) 0 h in absurd (omega arith)

pub ends_so : (most : ℕ) (state : State) (rest : List ℕ) (total : Result Expression Unsaid) → eqb (length rest) 0 ≡ true → read_within most state rest ≡ total → ended state ≡ total
ends_so most state rest total none inv = sym (empty_ends most state) ∙ ap (read_within most state) (sym (is_nil rest none)) ∙ inv

none_left : (state : State) (rest : List ℕ) → read_within 0 state rest ≡ ended state
unfolding read_within
none_left state rest = refl

pub at_end : (n i : ℕ) (state : State) (rest : List ℕ) (total : Result Expression Unsaid) → n ≤ i → read_within (n - i) state rest ≡ total → ended state ≡ total
at_end n i state rest total le inv =
    let none : n - i ≡ 0 = omega arith in
    sym (none_left state rest) ∙ ap (λ (m : ℕ). read_within m state rest) (sym none) ∙ inv

-- one more byte
opens : (most : ℕ) (state : State) (rest : List ℕ) → eqb (length rest) 0 ≡ false → read_within (suc most) state rest ≡ (step state (get_or rest 0 0) (drop 1 rest) >>= λ next. read_within most next.0 next.1)
unfolding read_within
opens most state [] some = absurd cc
opens most state (byte ∷ rest) some = refl

pub goes_so : (most : ℕ) (state next : State) (rest later : List ℕ) (total : Result Expression Unsaid) → eqb (length rest) 0 ≡ false → read_within (suc most) state rest ≡ total
    → step state (get_or rest 0 0) (drop 1 rest) ≡ given (next, later) → read_within most next later ≡ total
goes_so most state next rest later total some inv is =
    ap (λ (r : Result (State × List ℕ) Unsaid). r >>= λ n. read_within most n.0 n.1) (sym is) ∙ sym (opens most state rest some) ∙ inv

pub fails_so : (most : ℕ) (state : State) (rest : List ℕ) (fault : Unsaid) (total : Result Expression Unsaid) → eqb (length rest) 0 ≡ false → read_within (suc most) state rest ≡ total
    → Except (is_memory fault) (step state (get_or rest 0 0) (drop 1 rest) ≡ refused fault) → Except (is_memory fault) (total ≡ refused fault)
fails_so most state rest fault total some inv h = by (is_memory fault) h
  where
    by : (b : Bool) → Except b (step state (get_or rest 0 0) (drop 1 rest) ≡ refused fault) → Except b (total ≡ refused fault)
    by true k = tt
    by false k = sym inv ∙ opens most state rest some ∙ ap (λ (r : Result (State × List ℕ) Unsaid). r >>= λ n. read_within most n.0 n.1) k
