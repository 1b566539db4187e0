-- The text of the lines before `run`.
use Rattle.std.proofs.Common.{◌≡◌, ℕ, ◌+◌, ◌-◌, true, false, List, [], ◌∷◌, ◌++◌, length, take, refl, sym, ap, ◌∙◌, append_assoc, append-nil, length-append, inl, inr, arith}
use Rattle.std.proofs.Math.Seq.{take-append_seam, take-length}
use Rattle.std.specs.List.{list_any}
use Rattle.basics.specs.Lines.{Unread, TakesLine}
use Rattle.pol_text.specs.Text.{text_of_lines}
use Rattle.tac_server.specs.Script.{is_run, before_run, after_run}

pub before_run-line : (lines rest : List (List ℕ)) (line : List ℕ) → lines ≡ line ∷ rest → is_run line ≡ false → before_run lines ≡ line ∷ before_run rest
before_run-line lines rest line e h = ap before_run e ∙ rw h refl

pub after_run-line : (lines rest : List (List ℕ)) (line : List ℕ) → lines ≡ line ∷ rest → is_run line ≡ false → after_run lines ≡ after_run rest
after_run-line lines rest line e h = ap after_run e ∙ rw h refl

pub any_run-line : (lines rest : List (List ℕ)) (line : List ℕ) → lines ≡ line ∷ rest → is_run line ≡ false → list_any is_run lines ≡ list_any is_run rest
any_run-line lines rest line e h = ap (list_any is_run) e ∙ rw h refl

-- what stands before a rest
abbrev pub before : List ℕ → List ℕ → List ℕ
before text rest = take (length text - length rest) text

front_is : (front rest : List ℕ) → before (front ++ rest) rest ≡ front
front_is front rest =
    let n : length (front ++ rest) - length rest ≡ length front = omega (arith, length-append front rest) in
    rw n (take-append_seam front rest)

front_of : (text front rest : List ℕ) → front ++ rest ≡ text → before text rest ≡ front
front_of text front rest e = ap (λ (t : List ℕ). before t rest) (sym e) ∙ front_is front rest

-- the text with what a line and its LF add to the part before
regroup : (front line next : List ℕ) → front ++ (line ++ 10 ∷ next) ≡ (front ++ (line ++ 10 ∷ [])) ++ next
regroup front line next =
    ap (λ (t : List ℕ). front ++ t) (sym (append_assoc line (10 ∷ []) next)) ∙ sym (append_assoc front (line ++ 10 ∷ []) next)

module _ (text rest line : List ℕ) (old new : Unread) (same : rest ≡ old.text) (split : before text rest ++ rest ≡ text) where
  ended : old.text ≡ line ++ 10 ∷ new.text → (before text rest ++ (line ++ 10 ∷ [])) ++ new.text ≡ text
  ended e = sym (regroup (before text rest) line new.text) ∙ ap (λ (t : List ℕ). before text rest ++ t) (sym (same ∙ e)) ∙ split

  -- one line on, the text is still the part before and the rest
  pub line_split : TakesLine old line new → before text new.text ++ new.text ≡ text
  line_split takes =
      elim takes [
        | inl e ↦ rw (front_of text (before text rest ++ (line ++ 10 ∷ [])) new.text (ended e)) (ended e)
        | inr last ↦ rw last.1 (append-nil (take (length text - 0) text) ∙ whole text)
      ]
    where
      whole : (t : List ℕ) → take (length t - 0) t ≡ t
      whole t = let n : length t - 0 ≡ length t = omega arith in rw n (take-length t)

  -- and the part before is that of one line more
  pub line_told : (all : List (List ℕ)) → TakesLine old line new → old.lines ≡ line ∷ new.lines → is_run line ≡ false
      → (list_any is_run old.lines ≡ true → text_of_lines (before_run all) ≡ before text rest ++ text_of_lines (before_run old.lines))
      → list_any is_run new.lines ≡ true → text_of_lines (before_run all) ≡ before text new.text ++ text_of_lines (before_run new.lines)
  line_told all takes lines other told there =
      elim takes [
        | inl e ↦
            let front = front_of text (before text rest ++ (line ++ 10 ∷ [])) new.text (ended e) in
            rw front (told (any_run-line old.lines new.lines line lines other ∙ there)
            ∙ ap (λ (ls : List (List ℕ)). before text rest ++ text_of_lines ls) (before_run-line old.lines new.lines line lines other)
            ∙ regroup (before text rest) line (text_of_lines (before_run new.lines)))
        | inr last ↦ absurd (none new.lines last.2 there)
      ]
    where
      none : (ls : List (List ℕ)) → ls ≡ [] → list_any is_run ls ≡ true → ⊥
      none ls e h = let impossible : false ≡ true = ap (list_any is_run) (sym e) ∙ h in cc

pub line_count : (number next n : ℕ) (old new : List (List ℕ)) (line : List ℕ) → old ≡ line ∷ new → is_run line ≡ false → next ≡ number + 1
    → (list_any is_run old ≡ true → number + length (before_run old) ≡ n) → list_any is_run new ≡ true → next + length (before_run new) ≡ n
line_count number next n old new line e other more told there =
    let before = told (any_run-line old new line e other ∙ there) in
    let len = ap length (before_run-line old new line e other) in
    omega (arith, len, before, more)
