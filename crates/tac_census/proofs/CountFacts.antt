-- What of the counts changes where a connection comes or goes.
use Rattle.std.proofs.Common.{◌≡◌, ◌≢◌, ◌<◌, ◌+◌, ◌-◌, ℕ, zero, suc, Bool, true, false, cond, List, [], ◌∷◌, ◌++◌, length, count_by, Option, Some, is_some, IfSome, refl, sym, ap, ◌∙◌, arith}
use Rattle.std.proofs.lemmas.Cmp.{nat_list_eq_equiv}
use Rattle.std.proofs.lemmas.Slice.Eq.{bytes_eq-Decides}
use Rattle.std.proofs.lemmas.List.Sums.{sum_by-cons}
use Rattle.std.specs.Str.{bytes_eq}
use Rattle.std.specs.declared.net.ip_addr.IpAddr.{IpAddr}
use Rattle.tac_census.specs.Address.{segments_of}
use Rattle.tac_census.specs.Census.{Connections, count_of, without_first, with_one, without}
use Rattle.tac_census.specs.Counting.{there_after, entry_of, looked_up, one_less, AreCounted}

-- ---- entries

pub looked_up-entry_of : (n : ℕ) → looked_up (entry_of n) ≡ n
looked_up-entry_of zero = refl
looked_up-entry_of (suc n) = refl

-- an entry has at least one
pub positive : (n : ℕ) → IfSome (entry_of n) (λ count. 0 < count)
positive zero = tt
positive (suc n) = omega arith

pub some-entry_of : (n : ℕ) → is_some (entry_of n) ≡ true → 0 < n
some-entry_of zero e = cc
some-entry_of (suc n) e = omega arith

pub none-entry_of : (n : ℕ) → is_some (entry_of n) ≡ false → n ≡ 0
none-entry_of zero e = refl
none-entry_of (suc n) e = cc

pub one_less-entry_of : (b : Bool) (n : ℕ) → one_less b (entry_of n) ≡ entry_of (cond b (n - 1) n)
one_less-entry_of true zero = refl
one_less-entry_of true (suc n) = refl
one_less-entry_of false zero = refl
one_less-entry_of false (suc n) = refl

some_more : (n : ℕ) → Some (n + 1) ≡ entry_of (1 + n)
some_more n = let e : 1 + n ≡ suc n = omega arith in let f : n + 1 ≡ suc n = omega arith in ap Some f ∙ sym (ap entry_of e)

entry_of-more : (b : Bool) (n : ℕ) → cond b (Some (n + 1)) (entry_of n) ≡ entry_of (cond b 1 0 + n)
entry_of-more true n = some_more n
entry_of-more false n = ap entry_of (let e : n ≡ 0 + n = omega arith in e)

-- ---- lists

pub there_after-append : (there : List (List ℕ)) (history : List (List ℕ × Bool)) (segments : List ℕ) (came : Bool)
    → there_after there (history ++ (segments, came) ∷ []) ≡ cond came (segments ∷ there_after there history) (without_first segments (there_after there history))
there_after-append there [] segments true = refl
there_after-append there [] segments false = refl
there_after-append there ((other, true) ∷ history) segments came = there_after-append (other ∷ there) history segments came
there_after-append there ((other, false) ∷ history) segments came = there_after-append (without_first other there) history segments came

count-cons : (segments first : List ℕ) (rest : List (List ℕ)) → count_by (bytes_eq segments) (first ∷ rest) ≡ cond (bytes_eq segments first) 1 0 + count_by (bytes_eq segments) rest
count-cons segments first rest = sum_by-cons (λ x. cond (bytes_eq segments x) 1 0) first rest

pub without_first-same : (segments : List ℕ) (there : List (List ℕ)) → without_first segments (segments ∷ there) ≡ there
without_first-same segments there = ap (λ b. cond b there (segments ∷ without_first segments there)) (nat_list_eq_equiv.refl segments)

pub length-without_first : (segments : List ℕ) (there : List (List ℕ)) → 0 < count_by (bytes_eq segments) there → length (without_first segments there) + 1 ≡ length there
length-without_first segments [] h = omega arith
length-without_first segments (first ∷ rest) h =
    elim (bytes_eq segments first) as (λ b. 0 < cond b 1 0 + count_by (bytes_eq segments) rest → length (cond b rest (first ∷ without_first segments rest)) + 1 ≡ suc (length rest)) [
      | true ↦ λ _. omega arith
      | false ↦ λ k. let ih = length-without_first segments rest (omega arith) in omega arith
    ] (rw count-cons at h)

pub without_first-none : (segments : List ℕ) (there : List (List ℕ)) → count_by (bytes_eq segments) there ≡ 0 → without_first segments there ≡ there
without_first-none segments [] h = refl
without_first-none segments (first ∷ rest) h =
    elim (bytes_eq segments first) as (λ b. cond b 1 0 + count_by (bytes_eq segments) rest ≡ 0 → cond b rest (first ∷ without_first segments rest) ≡ first ∷ rest) [
      | true ↦ λ k. absurd (omega arith)
      | false ↦ λ k. ap (λ l. first ∷ l) (without_first-none segments rest (omega arith))
    ] (sym (count-cons segments first rest) ∙ h)

-- what a test of others says of the first, where the first is of these segments
at_first : (segments others first : List ℕ) → bytes_eq segments first ≡ true → bytes_eq others first ≡ bytes_eq segments others
at_first segments others first e =
    sym (nat_list_eq_equiv.symm first others ∙ refl) ∙ sym (nat_list_eq_equiv.congr segments first others e)

step_taken : (b : Bool) (n : ℕ) → n ≡ cond b (cond b 1 0 + n - 1) (cond b 1 0 + n)
step_taken true n = omega arith
step_taken false n = omega arith

step_kept : (b c : Bool) (n m : ℕ) → (b ≡ true → c ≡ false) → m ≡ cond b (n - 1) n → cond c 1 0 + m ≡ cond b (cond c 1 0 + n - 1) (cond c 1 0 + n)
step_kept true c n m h e = rw (h refl) (omega arith)
step_kept false c n m h e = ap (λ k. cond c 1 0 + k) e

-- others and the first aren't both these segments
apart : (segments others first : List ℕ) → bytes_eq segments first ≡ false → bytes_eq segments others ≡ true → bytes_eq others first ≡ false
apart segments others first other same = sym (nat_list_eq_equiv.congr segments others first same) ∙ other

pub count-without_first : (segments others : List ℕ) (there : List (List ℕ))
    → count_by (bytes_eq others) (without_first segments there) ≡ cond (bytes_eq segments others) (count_by (bytes_eq others) there - 1) (count_by (bytes_eq others) there)
count-without_first segments others [] = elim (bytes_eq segments others) as (λ b. 0 ≡ cond b (0 - 1) 0) [ true ↦ refl | false ↦ refl ]
count-without_first segments others (first ∷ rest) =
    rw (count-cons others first rest)
    (elim (bytes_eq segments first) as (λ b. bytes_eq segments first ≡ b → count_by (bytes_eq others) (cond b rest (first ∷ without_first segments rest))
    ≡ cond (bytes_eq segments others) (cond (bytes_eq others first) 1 0 + count_by (bytes_eq others) rest - 1) (cond (bytes_eq others first) 1 0 + count_by (bytes_eq others) rest)) [
      | true ↦ λ same. rw (at_first segments others first same) (step_taken (bytes_eq segments others) _)
      | false ↦ λ other. count-cons others first (without_first segments rest)
          ∙ step_kept (bytes_eq segments others) (bytes_eq others first) _ _ (apart segments others first other) (count-without_first segments others rest)
    ] refl)

-- ---- what holds

-- of the others there are as many as of these, if they are the same
as_many : (segments others : List ℕ) (there : List (List ℕ)) → bytes_eq segments others ≡ true → count_by (bytes_eq segments) there ≡ count_by (bytes_eq others) there
as_many segments others there same = ap (λ one. count_by (bytes_eq one) there) ((bytes_eq-Decides segments others).0 same)

count-more : (segments others : List ℕ) (there there' : List (List ℕ)) → there' ≡ segments ∷ there
    → count_by (bytes_eq others) there' ≡ cond (bytes_eq segments others) 1 0 + count_by (bytes_eq others) there
count-more segments others there there' is =
    ap (count_by (bytes_eq others)) is ∙ count-cons others segments there
    ∙ ap (λ b. cond b 1 0 + count_by (bytes_eq others) there) (nat_list_eq_equiv.symm others segments)

entry-put : (b : Bool) (these those : ℕ) → (b ≡ true → these ≡ those) → cond b (Some (these + 1)) (entry_of those) ≡ entry_of (cond b 1 0 + those)
entry-put true these those same = ap (λ n. Some (n + 1)) (same refl) ∙ entry_of-more true those
entry-put false these those same = entry_of-more false those

-- one more of these, where there is room
pub counted_more : (in_all : ℕ) (all : ℕ) (entry entry' : List ℕ → Option ℕ) (segments : List ℕ) (there there' : List (List ℕ))
    → AreCounted in_all all entry there → there' ≡ segments ∷ there → all ≢ in_all
    → ((others : List ℕ) → entry' others ≡ cond (bytes_eq segments others) (Some (count_by (bytes_eq segments) there + 1)) (entry others))
    → AreCounted in_all (all + 1) entry' there'
counted_more in_all all entry entry' segments there there' h is room put = record {
  many = let e : length there' ≡ suc (length there) = ap length is in let m = h.many in omega arith;
  within = let e : length there' ≡ suc (length there) = ap length is in let m = h.many in let w = h.within in omega arith;
  entries = λ others. put others ∙ ap (cond (bytes_eq segments others) (Some (count_by (bytes_eq segments) there + 1))) (h.entries others)
      ∙ entry-put (bytes_eq segments others) _ _ (as_many segments others there) ∙ sym (ap entry_of (count-more segments others there there' is));
}

count-less : (segments others : List ℕ) (there there' : List (List ℕ)) → there' ≡ without_first segments there
    → count_by (bytes_eq others) there' ≡ cond (bytes_eq segments others) (count_by (bytes_eq others) there - 1) (count_by (bytes_eq others) there)
count-less segments others there there' is = ap (count_by (bytes_eq others)) is ∙ count-without_first segments others there

-- one less of these, where there is one
pub counted_less : (in_all : ℕ) (all : ℕ) (entry entry' : List ℕ → Option ℕ) (segments : List ℕ) (there there' : List (List ℕ))
    → AreCounted in_all all entry there → there' ≡ without_first segments there → 0 < count_by (bytes_eq segments) there
    → ((others : List ℕ) → entry' others ≡ one_less (bytes_eq segments others) (entry others))
    → AreCounted in_all (all - 1) entry' there'
counted_less in_all all entry entry' segments there there' h is some put =
    let size : length there' + 1 ≡ length there = ap (λ l. length l + 1) is ∙ length-without_first segments there some in
    record {
      many = let m = h.many in omega arith;
      within = let w = h.within in omega arith;
      entries = λ others. put others ∙ ap (one_less (bytes_eq segments others)) (h.entries others)
          ∙ one_less-entry_of (bytes_eq segments others) _ ∙ sym (ap entry_of (count-less segments others there there' is));
    }

stays : (b : Bool) (these those : ℕ) → (b ≡ true → these ≡ those) → these ≡ 0 → cond b (those - 1) those ≡ those
stays true these those same none = let e = same refl in omega arith
stays false these those same none = refl

-- none of these, so none less
pub counted_same : (in_all : ℕ) (all : ℕ) (entry entry' : List ℕ → Option ℕ) (segments : List ℕ) (there : List (List ℕ))
    → AreCounted in_all all entry there → count_by (bytes_eq segments) there ≡ 0
    → ((others : List ℕ) → entry' others ≡ one_less (bytes_eq segments others) (entry others))
    → AreCounted in_all all entry' there
counted_same in_all all entry entry' segments there h none put = record {
  many = h.many;
  within = h.within;
  entries = λ others. put others ∙ ap (one_less (bytes_eq segments others)) (h.entries others) ∙ one_less-entry_of (bytes_eq segments others) _
      ∙ ap entry_of (stays (bytes_eq segments others) _ _ (as_many segments others there) none);
}

-- who comes is one more of this address
pub count_of-with_one : (address : IpAddr) (before : Connections) → count_of address (with_one address before) ≡ 1 + count_of address before
count_of-with_one address before =
    count-cons (segments_of address) (segments_of address) before.present
    ∙ ap (λ b. cond b 1 0 + count_of address before) (nat_list_eq_equiv.refl (segments_of address))

-- who came last goes first
pub without-with_one : (address : IpAddr) (before : Connections) → without address (with_one address before) ≡ before
without-with_one address before =
    let with_present : List (List ℕ) → Connections = λ present. record before { present = present } in
    ap with_present (without_first-same (segments_of address) before.present)
