-- Rows of derivatives.
use Rattle.std.proofs.Common.{◌≡◌, ◌↔◌, ◌⊎◌, inl, inr, ◌+◌, ◌-◌, ◌<◌, ◌≤◌, ℕ, Bool, true, false, List, [], ◌∷◌, ◌++◌, length, take, get_or, map, filter, cond, append-nil, eqb, nat_le, Option, Contains, Some, refl, sym, ap, subst, ◌∙◌, arith}
use Rattle.std.specs.List.{slice_get}
use Rattle.std.specs.List.Sorted.{IsStrictlyIncreasing}
use Rattle.std.proofs.lemmas.Bool.{false≢true, eqb-true, and_parts}
use Rattle.std.proofs.lemmas.Bool.Decides.{nat_tests}
use Rattle.std.proofs.lemmas.List.{take_more, map-append}
use Rattle.std.proofs.lemmas.List.Elements.{filter-append}
use Rattle.std.proofs.lemmas.Option.{same_Some}
use Rattle.basics.specs.Symbol.{is_symbol}
use Rattle.pol_pattern.specs.Flat.{Class, holds_symbol, Term, empty}
use Rattle.pol_residual.specs.Derivative.{Derivative}
use Rattle.pol_deriv.specs.Linear.{linear, Leads}
use Rattle.pol_deriv.specs.Table.{Means, Keeps, StandsFor, IsSetOf}
use Rattle.pol_deriv.specs.Forms.{IsForm, reached, IsRowOf}
use Rattle.pol_deriv.specs.Rows.{place_of, IsRow, AreRows}
use Rattle.pol_deriv.specs.declared.linear.Monomial.{Monomial}
use Rattle.pol_deriv.proofs.AnyText.{no_derivative}
use Rattle.pol_deriv.proofs.LinearForms.{linear_is}
use Rattle.pol_deriv.proofs.Tables.{get-append, get-last}
use Rattle.pol_deriv.proofs.Sets.{stands_none, stands_same, stands_append, stands_one, stands_moved, set_kept}

-- ---- one more list of a row

pub row_more : (form : List Monomial) (lists : List (List ℕ)) (place count : ℕ) (list : List ℕ) → length lists ≡ place + count → IsRowOf form lists place count
    → IsStrictlyIncreasing list → ((number : ℕ) → Contains list number ↔ Contains (reached (32 + count) form) number) → IsRowOf form (lists ++ list ∷ []) place (count + 1)
row_more form lists place count list long row sorted members = λ column lt. by column (split column lt)
  where
    split : (column : ℕ) → column < count + 1 → (column < count) ⊎ (column ≡ count)
    split column lt = grind arith

    by : (column : ℕ) → (column < count) ⊎ (column ≡ count)
        → (l : List ℕ) × (slice_get (lists ++ list ∷ []) (place + column) ≡ Some l) × IsStrictlyIncreasing l × ((number : ℕ) → Contains l number ↔ Contains (reached (32 + column) form) number)
    by column (inl lt) = let w = row column lt in (w.0, get-append lists (list ∷ []) (place + column) w.0 w.1, w.2, w.3)
    by column (inr e) = (
      list,
      subst (λ (k : ℕ). slice_get (lists ++ list ∷ []) k ≡ Some list) (long ∙ ap (λ (k : ℕ). place + k) (sym e)) (get-last lists list),
      sorted,
      λ number. subst (λ (k : ℕ). Contains list number ↔ Contains (reached (32 + k) form) number) (sym e) (members number),
    )

-- ---- the numbers to which a symbol leads

-- by one monomial more
pub reached_more : (symbol : ℕ) (form : List Monomial) (k : ℕ) (m : Monomial) → k < length form → m ≡ get_or form k m
    → reached symbol (take (k + 1) form) ≡ cond (holds_symbol m.class symbol) (reached symbol (take k form) ++ m.next ∷ []) (reached symbol (take k form))
reached_more symbol form k m lt at =
    ap (reached symbol) (take_more form k m lt ∙ ap (λ (x : Monomial). take k form ++ x ∷ []) (sym at)) ∙ last (take k form)
  where
    by : (b : Bool) (numbers : List ℕ) → numbers ++ map (λ (x : Monomial). x.next) (cond b (m ∷ []) []) ≡ cond b (numbers ++ m.next ∷ []) numbers
    by true numbers = refl
    by false numbers = append-nil numbers

    last : (front : List Monomial) → reached symbol (front ++ m ∷ []) ≡ cond (holds_symbol m.class symbol) (reached symbol front ++ m.next ∷ []) (reached symbol front)
    last front =
        ap (map (λ (x : Monomial). x.next)) (filter-append (λ (x : Monomial). holds_symbol x.class symbol) front (m ∷ []))
        ∙ map-append (λ (x : Monomial). x.next) (filter (λ (x : Monomial). holds_symbol x.class symbol) front) (cond (holds_symbol m.class symbol) (m ∷ []) [])
        ∙ by (holds_symbol m.class symbol) (reached symbol front)

-- ---- what the lists of a row represent

-- the numbers to which a symbol leads are those of the terms to which it leads
pub reached_stands : (symbol : ℕ) (table : List Term) (form : List Monomial) (pairs : List (Class × Term)) → IsForm table form pairs → StandsFor table (reached symbol form) (Leads symbol pairs)
reached_stands symbol table [] [] is = stands_none table
reached_stands symbol table [] (pair ∷ pairs) is = absurd is
reached_stands symbol table (m ∷ form) [] is = absurd is
reached_stands symbol table (m ∷ form) (pair ∷ pairs) is = by (holds_symbol m.class symbol) refl (reached_stands symbol table form pairs is.1)
  where
    by : (b : Bool) → holds_symbol m.class symbol ≡ b → StandsFor table (reached symbol form) (Leads symbol pairs)
        → StandsFor table (map (λ (x : Monomial). x.next) (cond b (m ∷ filter (λ x. holds_symbol x.class symbol) form) (filter (λ x. holds_symbol x.class symbol) form))) (Leads symbol (pair ∷ pairs))
    by true e rest =
        stands_same (λ term. (
          λ h. elim h [ inl x ↦ inl (subst (λ (c : Class). holds_symbol c symbol ≡ true) is.0.0 e, x) | inr y ↦ inr y ],
          λ h. elim h [ inl x ↦ inl x.1 | inr y ↦ inr y ],
        ))
        (stands_append (m.next ∷ []) (reached symbol form) (stands_one table m.next pair.1 is.0.1) rest)
    by false e rest =
        stands_same (λ term. (
          λ h. inr h,
          λ h. elim h [ inl x ↦ absurd (false≢true (sym e ∙ ap (λ (c : Class). holds_symbol c symbol) is.0.0 ∙ x.0)) | inr y ↦ y ],
        ))
        rest

-- so a row of a term's linear form is that of its derivatives
pub row_is : (table : List Term) (lists : List (List ℕ)) (place : ℕ) (form : List Monomial) (term : Term) → IsForm table form (linear term empty) → IsRowOf form lists place 95 → IsRow table lists place term
row_is table lists place form term is row = λ column lt.
    let w = row column lt in
    let symbol = 32 + column in (
      w.0,
      w.1,
      record {
        sorted = w.2;
        members = stands_moved w.3 (stands_same (λ next. let same = linear_is symbol term next in (same.1, same.0)) (reached_stands symbol table form (linear term empty) is));
      },
    )

pub row_kept : (old new : List Term) (lists longer : List (List ℕ)) (place : ℕ) (term : Term) → Keeps old new → ((k : ℕ) (list : List ℕ) → slice_get lists k ≡ Some list → slice_get longer k ≡ Some list)
    → IsRow old lists place term → IsRow new longer place term
row_kept old new lists longer place term keeps kept row = λ column lt.
    let w = row column lt in
    (w.0, kept (place + column) w.0 w.1, set_kept keeps w.2)

-- ---- all rows

abbrev pub ListsKept : List (List ℕ) → List (List ℕ) → Type 0
ListsKept lists longer = (k : ℕ) (list : List ℕ) → slice_get lists k ≡ Some list → slice_get longer k ≡ Some list

module _ (old new : List Term) (keeps : Keeps old new) (places after : List (Option ℕ)) (lists longer : List (List ℕ)) (kept : ListsKept lists longer)
    (rows : AreRows old (record { places = places; lists = lists })) where
  -- what was worked out is still there
  pub rows_kept : ((n : ℕ) → place_of after n ≡ place_of places n) → AreRows new (record { places = after; lists = longer })
  rows_kept same = λ number place e.
      let w = rows number place (sym (same number) ∙ e) in
      (w.0, keeps number w.0 w.1, row_kept old new lists longer place w.0 keeps kept w.2)

  -- and one row more
  pub rows_more : (number place : ℕ) (term : Term) → Means new number term → IsRow new longer place term
      → ((n : ℕ) → place_of after n ≡ cond (eqb n number) (Some place) (place_of places n)) → AreRows new (record { places = after; lists = longer })
  rows_more number place term means row noted = λ n p e. by n p (eqb n number) refl (sym (noted n) ∙ e)
    where
      by : (n p : ℕ) (b : Bool) → eqb n number ≡ b → cond b (Some place) (place_of places n) ≡ Some p → (t : Term) × Means new n t × IsRow new longer p t
      by n p true same e =
          let own : place ≡ p = cc in
          (term, subst (λ (k : ℕ). Means new k term) (sym (eqb-true n number same)) means, subst (λ (k : ℕ). IsRow new longer k term) own row)
      by n p false other e =
          let w = rows n p e in
          (w.0, keeps n w.0 w.1, row_kept old new lists longer p w.0 keeps kept w.2)

-- ---- what is lent

-- by a byte that is no symbol, no numbers
pub none_lent : (table : List Term) (byte : ℕ) (term : Term) → is_symbol byte ≡ false → IsSetOf table [] (Derivative byte term)
none_lent table byte term not = record {
  sorted = λ k lt. absurd (omega arith);
  members = stands_same (λ next. (λ h. absurd h, λ d. no_derivative byte term next not d)) (stands_none table);
}

-- the column of a symbol
pub symbol_column : (byte : ℕ) → is_symbol byte ≡ true → (32 + (byte - 32) ≡ byte) × (byte - 32 < 95)
symbol_column byte is =
    let p = and_parts (nat_le 32 byte) (nat_le byte 126) is in
    (omega (arith, le_from p.0), omega (arith, le_from p.0, le_from p.1))
  where
    le_from : {a b : ℕ} → nat_le a b ≡ true → a ≤ b
    le_from {a} {b} h = grind (arith, nat_tests)

-- and the list of a row that stands there
pub list_lent : (table : List Term) (lists : List (List ℕ)) (place byte column : ℕ) (list : List ℕ) (term : Term) → is_symbol byte ≡ true → column ≡ byte - 32 → IsRow table lists place term
    → slice_get lists (place + column) ≡ Some list → IsSetOf table list (Derivative byte term)
list_lent table lists place byte column list term is at row e =
    let c = symbol_column byte is in
    let w = row (byte - 32) c.1 in
    let same = same_Some w.0 list (sym w.1 ∙ ap (λ (k : ℕ). slice_get lists (place + k)) (sym at) ∙ e) in
    subst (λ (l : List ℕ). IsSetOf table l (Derivative byte term)) same (subst (λ (k : ℕ). IsSetOf table w.0 (Derivative k term)) c.0 w.2)
