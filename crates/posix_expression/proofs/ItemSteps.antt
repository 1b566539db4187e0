-- Items of a class, one after another.
use Rattle.std.proofs.Common.{◌≡◌, ℕ, suc, ◌+◌, ◌-◌, ◌<◌, ◌≤◌, Bool, true, false, cond, List, [], ◌∷◌, ◌++◌, drop, Result, Ok, Err, refl, sym, ap, ◌∙◌, append_assoc, append-nil, arith}
use Rattle.basics.specs.Memory.{Except}
use Rattle.posix_expression.specs.declared.tree.Item.{Item}
use Rattle.posix_expression.specs.declared.unsaid.Unsaid.{Unsaid}
use Rattle.posix_expression.specs.declared.unsaid.Unsaid.TheVariants as why
use Rattle.posix_expression.specs.Memory.{is_memory}
use Rattle.posix_expression.specs.Reading.{◌>>=◌, ends_class, item_at, items_within}
use Rattle.posix_expression.proofs.Steps.{given, refused}

abbrev pub Items : Type 0
Items = Result (List Item × List ℕ) Unsaid

-- items that were read before
abbrev pub before_items : List Item → Items → Items
before_items items rest = rest >>= λ others. Ok (items ++ others.0, others.1)

-- an item before others
abbrev onto : Item → Items → Items
onto item rest = rest >>= λ others. Ok (item ∷ others.0, others.1)

one_fewer : (n i : ℕ) → i < n → n - i ≡ suc (n - (i + 1))
one_fewer n i lt = omega arith

within : (most : ℕ) (rest : List ℕ) → items_within (suc most) rest ≡ cond (ends_class rest) (Ok ([], drop 1 rest)) (item_at rest >>= λ first. onto first.0 (items_within most first.1))
unfolding items_within
within most rest = refl

-- the invariant with one more turn to go
abbrev Turn : List Item → ℕ → List ℕ → Items → Type 0
Turn items most rest total = before_items items (items_within (suc most) rest) ≡ total

pub turn : (items : List Item) (n i : ℕ) (rest : List ℕ) (total : Items) → i < n → before_items items (items_within (n - i) rest) ≡ total → Turn items (n - (i + 1)) rest total
turn items n i rest total lt inv = ap (λ (m : ℕ). before_items items (items_within m rest)) (sym (one_fewer n i lt)) ∙ inv

pub ends_here : (items : List Item) (most : ℕ) (rest : List ℕ) (total : Items) → ends_class rest ≡ true → Turn items most rest total → total ≡ given (items, drop 1 rest)
ends_here items most rest total is inv =
    sym inv ∙ ap (before_items items) (within most rest) ∙ ap (λ (b : Bool). before_items items (cond b (Ok ([], drop 1 rest)) (item_at rest >>= λ first. onto first.0 (items_within most first.1)))) is
    ∙ ap (λ (o : List Item). given (o, drop 1 rest)) (append-nil items)

goes_on : (items : List Item) (most : ℕ) (rest : List ℕ) (total : Items) → ends_class rest ≡ false → Turn items most rest total → before_items items (item_at rest >>= λ first. onto first.0 (items_within most first.1)) ≡ total
goes_on items most rest total is inv =
    ap (λ (b : Bool). before_items items (cond b (Ok ([], drop 1 rest)) (item_at rest >>= λ first. onto first.0 (items_within most first.1)))) (sym is)
    ∙ ap (before_items items) (sym (within most rest)) ∙ inv

moved : (items : List Item) (item : Item) (r : Items) → before_items (items ++ item ∷ []) r ≡ before_items items (onto item r)
moved items item (Err fault) = refl
moved items item (Ok others) = ap (λ (o : List Item). given (o, others.1)) (append_assoc items (item ∷ []) others.0)

pub one_more : (items : List Item) (most : ℕ) (rest later : List ℕ) (item : Item) (total : Items) → ends_class rest ≡ false → Turn items most rest total → item_at rest ≡ given (item, later)
    → before_items (items ++ item ∷ []) (items_within most later) ≡ total
one_more items most rest later item total is inv found =
    moved items item (items_within most later)
    ∙ ap (λ (r : Result (Item × List ℕ) Unsaid). before_items items (r >>= λ first. onto first.0 (items_within most first.1))) (sym found)
    ∙ goes_on items most rest total is inv

pub one_fails : (items : List Item) (most : ℕ) (rest : List ℕ) (fault : Unsaid) (total : Items) → ends_class rest ≡ false → Turn items most rest total
    → Except (is_memory fault) (item_at rest ≡ refused fault) → Except (is_memory fault) (total ≡ refused fault)
one_fails items most rest fault total is inv h = by (is_memory fault) h
  where
    by : (b : Bool) → Except b (item_at rest ≡ refused fault) → Except b (total ≡ refused fault)
    by true k = tt
    by false k =
        sym (goes_on items most rest total is inv)
        ∙ ap (λ (r : Result (Item × List ℕ) Unsaid). before_items items (r >>= λ first. onto first.0 (items_within most first.1))) k

none_left : (rest : List ℕ) → items_within 0 rest ≡ Err why.BadClass
unfolding items_within
none_left rest = refl

pub at_end : (items : List Item) (n i : ℕ) (rest : List ℕ) (total : Items) → n ≤ i → before_items items (items_within (n - i) rest) ≡ total → total ≡ refused why.BadClass
at_end items n i rest total le inv =
    let none : n - i ≡ 0 = omega arith in
    sym inv ∙ ap (λ (m : ℕ). before_items items (items_within m rest)) none ∙ ap (before_items items) (none_left rest)
