-- Remarks that are alike, but for what isn't defined of them.
use Rattle.std.proofs.Common.{◌≡◌, ◌≢◌, ◌∷◌, ◌++◌, ◌||◌, [], ℕ, nat_eq, Bool, true, false, List, map, Option, Some, None, refl, sym, ap, ◌∙◌, if◌then◌else◌}
use Rattle.std.specs.Option.{option_map}
use Rattle.std.specs.List.{list_any}
use Rattle.std.proofs.lemmas.List.{map-append, append_assoc}
use Rattle.pol_text.specs.declared.fault.PolicyRefusal.{PolicyRefusal}
use Rattle.pol_words.specs.Places.{noted}
use Rattle.pol_words.specs.Plain.{plain, plain_found, Alike}
use Rattle.pol_words.specs.declared.finding.Finding.TheVariants.{Refused}
use Rattle.pol_words.specs.declared.remark.Found.{Found}
use Rattle.pol_words.specs.declared.remark.Remark.{Remark}
use Rattle.pol_faults.specs.Chains.{or_else, with_refusal}

noted_alike : (number : ℕ) (told wanted : Option Found) → option_map plain_found told ≡ option_map plain_found wanted → Alike (noted number told) (noted number wanted)
noted_alike number None None e = refl
noted_alike number None (Some w) e = absurd cc
noted_alike number (Some t) None e = absurd cc
noted_alike number (Some t) (Some w) e =
    let same : plain_found t ≡ plain_found w = cc in
    ap (λ (f : Found). record { line = number; column = f.column; finding = f.finding } ∷ []) same

-- what was told of one more line
pub more_alike : (number : ℕ) (before after all : List Remark) (told wanted : Option Found) → option_map plain_found told ≡ option_map plain_found wanted
    → Alike (before ++ (noted number wanted ++ after)) all → Alike ((before ++ noted number told) ++ after) all
more_alike number before after all told wanted e so =
    ap (map plain) (append_assoc before (noted number told) after)
    ∙ map-append plain before (noted number told ++ after)
    ∙ ap (λ (later : List Remark). map plain before ++ later) (map-append plain (noted number told) after ∙ ap (λ (one : List Remark). one ++ map plain after) (noted_alike number told wanted e) ∙ sym (map-append plain (noted number wanted) after))
    ∙ sym (map-append plain before (noted number wanted ++ after))
    ∙ so

-- of two lists the first that has anything
pub first_alike : (remarks wanted later : List Remark) → remarks ≢ [] → Alike remarks wanted → Alike remarks (or_else wanted later)
first_alike [] wanted later some e = absurd (some refl)
first_alike (r ∷ rs) [] later some e = absurd cc
first_alike (r ∷ rs) (w ∷ ws) later some e = e

pub later_alike : (remarks wanted told later : List Remark) → remarks ≡ [] → Alike remarks wanted → told ≡ later → Alike told (or_else wanted later)
later_alike remarks [] told later none e same = ap (map plain) same
later_alike remarks (w ∷ ws) told later none e same = absurd (let h = ap (map plain) none in cc)

-- the line of a remark is what it is
told_alike : (line : ℕ) (remarks wanted : List Remark) → Alike remarks wanted → list_any (λ remark. nat_eq remark.line line) remarks ≡ list_any (λ remark. nat_eq remark.line line) wanted
told_alike line [] [] e = refl
told_alike line [] (w ∷ ws) e = absurd cc
told_alike line (r ∷ rs) [] e = absurd cc
told_alike line (r ∷ rs) (w ∷ ws) e =
    let head : plain r ≡ plain w = cc in
    let tail : Alike rs ws = cc in
    ap (λ (one : Remark). nat_eq one.line line || list_any (λ remark. nat_eq remark.line line) rs) head
    ∙ ap (λ (more : Bool). nat_eq w.line line || more) (told_alike line rs ws tail)

pub told_so : (line : ℕ) (refusal : PolicyRefusal) (remarks wanted : List Remark) → Alike remarks wanted → list_any (λ remark. nat_eq remark.line line) remarks ≡ true → Alike remarks (with_refusal line refusal wanted)
told_so line refusal remarks wanted e told =
    let so = sym (told_alike line remarks wanted e) ∙ told in
    e ∙ sym (ap (λ (b : Bool). map plain (if b then wanted else record { line = line; column = 1; finding = Refused refusal } ∷ wanted)) so)

pub untold_so : (line : ℕ) (refusal : PolicyRefusal) (remarks wanted : List Remark) → Alike remarks wanted → list_any (λ remark. nat_eq remark.line line) remarks ≡ false
    → Alike (record { line = line; column = 1; finding = Refused refusal } ∷ remarks) (with_refusal line refusal wanted)
untold_so line refusal remarks wanted e untold =
    let so = sym (told_alike line remarks wanted e) ∙ untold in
    let own : Remark = record { line = line; column = 1; finding = Refused refusal } in
    ap (λ (later : List Remark). plain own ∷ later) e ∙ sym (ap (λ (b : Bool). map plain (if b then wanted else own ∷ wanted)) so)
