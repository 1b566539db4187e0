-- Edits that are cut into batches.
use Rattle.std.proofs.Common.{◌≡◌, ◌<◌, ◌≤◌, ◌+◌, ℕ, suc, List, [], ◌∷◌, ◌++◌, length, Result, Ok, Err, refl, sym, ap, subst, ◌∙◌, append_assoc, append-nil, length-append, ◌==◌, min, true, false, arith}
use Rattle.std.specs.List.{flat_map}
use Rattle.std.proofs.lemmas.Bool.Decides.{nat_tests}
use Rattle.std.proofs.lemmas.List.Concat.{flat_map-append}
use Rattle.pol_text.specs.declared.subject.Subject.{Subject}
use Rattle.pol_edit.specs.Applying.{applied}
use Rattle.pol_edit.specs.Batches.{applied_from, applied_all, then}
use Rattle.pol_edit.specs.declared.edit.Edit.{Edit}
use Rattle.pol_edit.specs.declared.batching.BatchFault.{BatchFault}
use Rattle.pol_edit.specs.declared.fault.EditFault.{EditFault}
use Rattle.pol_meaning.specs.Sizes.{IsSmall}
use Rattle.pol_live.specs.Live.{PreparesAll}
use Rattle.pol_update.specs.Update.{HaveSame, AreSteps, Updates}
use Rattle.tac_review.specs.Loading.{batch_text, batches_end, refused_batch, IsBatch, AreFull, AreSpelled, Takes, ArePrinted, AreRefused}
use Rattle.tac_review.proofs.LineFacts.{all_ask, more_spelled, steps_spelled}
use Rattle.tac_review.specs.declared.task.ReviewEnd.{ReviewEnd}
use Rattle.tac_review.specs.declared.task.ReviewEnd.TheVariants.{Refused}

-- ---- what edits make does not go by their numbers

renumbered : (at to : ℕ) (edits : List Edit) (made : List Subject) (next : Result (List Subject) EditFault)
    → ((policy : List Subject) → applied_from (suc at) edits policy ≡ Ok made → applied_from (suc to) edits policy ≡ Ok made)
    → then at next (applied_from (suc at) edits) ≡ Ok made → then to next (applied_from (suc to) edits) ≡ Ok made
renumbered at to edits made (Ok policy) rest h = rest policy h
renumbered at to edits made (Err fault) rest h = absurd cc

other_number : (at to : ℕ) (edits : List Edit) (policy made : List Subject) → applied_from at edits policy ≡ Ok made → applied_from to edits policy ≡ Ok made
other_number at to [] policy made h = h
other_number at to (edit ∷ edits) policy made h = renumbered at to edits made (applied policy edit) (λ next k. other_number (suc at) (suc to) edits next made k) h

behind : (at : ℕ) (edits rest : List Edit) (mid made : List Subject) (next : Result (List Subject) EditFault)
    → ((policy : List Subject) → applied_from (suc at) (edits ++ rest) policy ≡ Ok made → applied_from (suc at) edits policy ≡ Ok mid → applied_from 1 rest mid ≡ Ok made)
    → then at next (applied_from (suc at) (edits ++ rest)) ≡ Ok made → then at next (applied_from (suc at) edits) ≡ Ok mid → applied_from 1 rest mid ≡ Ok made
behind at edits rest mid made (Ok policy) goes all h = goes policy all h
behind at edits rest mid made (Err fault) goes all h = absurd cc

-- the later edits make of what the first make all that all make
later : (at : ℕ) (edits rest : List Edit) (policy mid made : List Subject) → applied_from at (edits ++ rest) policy ≡ Ok made → applied_from at edits policy ≡ Ok mid → applied_from 1 rest mid ≡ Ok made
later at [] rest policy mid made all h = let same : policy ≡ mid = cc in subst (λ (p : List Subject). applied_from 1 rest p ≡ Ok made) same (other_number at 1 rest policy made all)
later at (edit ∷ edits) rest policy mid made all h = behind at edits rest mid made (applied policy edit) (λ next k l. later (suc at) edits rest next mid made k l) all h

-- ---- one batch more

takes_more : (policy mid made : List Subject) (batches : List (List Edit)) (batch : List Edit) → Takes policy batches mid → IsBatch batch → applied_all mid batch ≡ Ok made → IsSmall made
    → Takes policy (batches ++ batch ∷ []) made
takes_more policy mid made [] batch taken fits makes small = (made, fits, subst (λ (p : List Subject). applied_all p batch ≡ Ok made) (sym taken) makes, small, refl)
takes_more policy mid made (first ∷ batches) batch taken fits makes small =
    (taken.0, taken.1, taken.2, taken.3, takes_more taken.0 mid made batches batch taken.4 fits makes small)

-- ---- full batches

abbrev pub AllFull : List (List Edit) → Type 0
AllFull [] = Unit {0}
AllFull (batch ∷ batches) = (length batch ≡ 64) × AllFull batches

last_full : (batches : List (List Edit)) (batch : List Edit) → AllFull batches → AreFull (batches ++ batch ∷ [])
last_full [] batch full = tt
last_full (first ∷ []) batch full = (full.0, tt)
last_full (first ∷ second ∷ batches) batch full = (full.0, last_full (second ∷ batches) batch full.1)

more_full : (batches : List (List Edit)) (batch : List Edit) → AllFull batches → length batch ≡ 64 → AllFull (batches ++ batch ∷ [])
more_full [] batch full size = (size, tt)
more_full (first ∷ batches) batch full size = (full.0, more_full batches batch full.1 size)

joined : {A : Type 0} (f : List Edit → List A) (batches : List (List Edit)) (batch : List Edit) → flat_map f batches ++ f batch ≡ flat_map f (batches ++ batch ∷ [])
joined f batches batch = ap (λ t. flat_map f batches ++ t) (sym (append-nil (f batch))) ∙ sym (flat_map-append f batches (batch ∷ []))

-- so far these batches were made and printed
pub record Printed (old live : List Subject) (edits rest : List Edit) (text : List ℕ) (count : ℕ) : Type 0 where
  pub batches : List (List Edit)
  pub taken : Takes old batches live
  pub cut : edits ≡ flat_map (λ edits. edits) batches ++ rest
  pub printed : text ≡ flat_map batch_text batches
  pub counted : count ≡ length batches
  pub few : count + length rest ≤ length edits
  pub goes_on : (made : List Subject) → applied_all old edits ≡ Ok made → applied_all live rest ≡ Ok made
  pub full : AreFull batches
  pub filled : 0 < length rest → AllFull batches
  pub spelled : AreSpelled (flat_map (λ edits. edits) batches)

pub none_printed : (old : List Subject) (edits : List Edit) → Printed old old edits edits [] 0
none_printed old edits = record {
  batches = [];
  taken = refl;
  cut = refl;
  printed = refl;
  counted = refl;
  few = omega arith;
  goes_on = λ made h. h;
  full = tt;
  filled = λ some. tt;
  spelled = tt;
}

some_left : (batch rest : List Edit) → IsBatch batch → 0 < length (batch ++ rest)
some_left batch rest fits = omega (arith, fits.0, length-append batch rest)

pub one_more : (old live next : List Subject) (edits batch rest : List Edit) (text after : List ℕ) (count : ℕ) → Printed old live edits (batch ++ rest) text count → IsBatch batch
    → applied_all live batch ≡ Ok next → IsSmall next → after ≡ text ++ batch_text batch → (0 < length rest → length batch ≡ 64) → AreSpelled batch → Printed old next edits rest after (count + 1)
one_more old live next edits batch rest text after count p fits makes small is sized spelled = record {
  batches = p.batches ++ batch ∷ [];
  taken = takes_more old live next p.batches batch p.taken fits makes small;
  cut = p.cut ∙ sym (append_assoc (flat_map (λ edits. edits) p.batches) batch rest) ∙ ap (λ (front : List Edit). front ++ rest) (joined (λ edits. edits) p.batches batch);
  printed = is ∙ ap (λ (t : List ℕ). t ++ batch_text batch) p.printed ∙ joined batch_text p.batches batch;
  counted = omega (arith, p.counted, length-append p.batches (batch ∷ []));
  few = omega (arith, p.few, fits.0, length-append batch rest);
  goes_on = λ made h. later 1 batch rest live next made (p.goes_on made h) makes;
  full = last_full p.batches batch (p.filled (some_left batch rest fits));
  filled = λ more. more_full p.batches batch (p.filled (some_left batch rest fits)) (sized more);
  spelled = subst AreSpelled (joined (λ edits. edits) p.batches batch) (more_spelled (flat_map (λ edits. edits) p.batches) batch p.spelled spelled);
}

-- ---- the end

no_batches : (old live : List Subject) (edits rest : List Edit) (batches : List (List Edit)) → Takes old batches live → edits ≡ flat_map (λ edits. edits) batches ++ rest → edits ≡ [] → batches ≡ []
no_batches old live edits rest [] taken cut none = refl
no_batches old live edits rest (batch ∷ batches) taken cut none =
    let all = flat_map (λ edits. edits) batches in
    let whole : length edits ≡ length ((batch ++ all) ++ rest) = ap length cut in
    let nothing : length edits ≡ 0 = ap length none in
    absurd (omega (arith, taken.1.0, length-append (batch ++ all) rest, length-append batch all, whole, nothing))

pub all_printed : (old live new : List Subject) (edits rest : List Edit) (text : List ℕ) (count : ℕ) (end : ReviewEnd) → Printed old live edits rest text count → rest ≡ [] → Updates old edits new
    → (HaveSame old new → edits ≡ []) → end ≡ batches_end count → ArePrinted old new text end
all_printed old live new edits rest text count end p none update nothing ends =
    let last : applied_all live [] ≡ Ok update.made = subst (λ (r : List Edit). applied_all live r ≡ Ok update.made) none (p.goes_on update.made update.makes) in
    let same : live ≡ update.made = cc in
    let all : edits ≡ flat_map (λ edits. edits) p.batches = p.cut ∙ ap (λ (r : List Edit). flat_map (λ edits. edits) p.batches ++ r) none ∙ append-nil (flat_map (λ edits. edits) p.batches) in
    let steps : AreSteps old new old (flat_map (λ edits. edits) p.batches) live =
    subst (λ (m : List Subject). AreSteps old new old (flat_map (λ edits. edits) p.batches) m) (sym same) (subst (λ (e : List Edit). AreSteps old new old e update.made) all update.steps) in
    record {
      batches = p.batches;
      made = live;
      taken = p.taken;
      same = subst (λ (m : List Subject). HaveSame m new) (sym same) update.same;
      steps = steps;
      full = p.full;
      none = λ alike. no_batches old live edits rest p.batches p.taken p.cut (nothing alike);
      printed = p.printed;
      ask = rw p.printed (all_ask p.batches (steps_spelled old new old live (flat_map (λ edits. edits) p.batches) steps p.spelled));
      ends = ends ∙ ap batches_end p.counted;
    }

pub one_refused : (old live new : List Subject) (edits batch rest : List Edit) (text output : List ℕ) (count : ℕ) (fault : BatchFault) (end : ReviewEnd) → Printed old live edits (batch ++ rest) text count
    → Updates old edits new → (HaveSame old new → edits ≡ []) → IsBatch batch → (0 < length rest → length batch ≡ 64) → PreparesAll live batch (Err fault) → output ≡ refused_batch (count + 1) fault
    → end ≡ Refused → AreRefused old new output end
one_refused old live new edits batch rest text output count fault end p update nothing fits sized refused is ends = record {
  batches = p.batches;
  before = live;
  taken = p.taken;
  batch = batch;
  fits = fits;
  rest = rest;
  makes = subst (λ (e : List Edit). Updates old e new) p.cut update;
  full = last_full p.batches batch (p.filled (some_left batch rest fits));
  filled = sized;
  differ = λ alike. some_edits (nothing alike);
  fault = fault;
  refused = refused;
  printed = is ∙ ap (λ (n : ℕ). refused_batch n fault) (number count (length p.batches) p.counted);
  ends = ends;
}
  where
    some_edits : edits ≡ [] → ⊥
    some_edits none =
        let all = flat_map (λ edits. edits) p.batches in
        let whole : length edits ≡ length (all ++ (batch ++ rest)) = ap length p.cut in
        let zero_long : length edits ≡ 0 = ap length none in
        omega (arith, fits.0, length-append all (batch ++ rest), length-append batch rest, whole, zero_long)

    number : (a b : ℕ) → a ≡ b → a + 1 ≡ suc b
    number a b e = omega (arith, e)

-- ---- a cut

pub fits_batch : (rest batch : List Edit) (size : ℕ) → (length rest == 0) ≡ false → size ≡ min (length rest) 64 → length batch ≡ size → IsBatch batch
fits_batch rest batch size some least cut = (grind (arith, nat_tests), grind (arith, nat_tests))

-- a batch is full if edits are left after it
pub full_batch : (rest batch after : List Edit) (size : ℕ) → batch ++ after ≡ rest → size ≡ min (length rest) 64 → length batch ≡ size → 0 < length after → length batch ≡ 64
full_batch rest batch after size whole least cut some =
    let all : length rest ≡ length batch + length after = sym (ap length whole) ∙ length-append batch after in
    grind (arith, nat_tests)

pub none_left : (rest : List Edit) → (length rest == 0) ≡ true → rest ≡ []
none_left [] none = refl
none_left (edit ∷ rest) none = absurd (grind (arith, nat_tests))
