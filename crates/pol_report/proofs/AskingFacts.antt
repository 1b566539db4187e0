-- Which services are marked, and of which others nothing changes.
use Rattle.std.proofs.Common.{◌≡◌, ℕ, zero, suc, ◌+◌, ◌-◌, ◌<◌, ◌≤◌, nat_lt, length, position, slice_get, get_or, set, take, drop, Bool, true, false, not, cond, ◌||◌, if◌then◌else◌, List, [], ◌∷◌, ◌++◌, append_assoc, filter_map, Option, None, Some, is_some, refl, sym, ap, subst, ◌∙◌, arith}
use Rattle.std.specs.List.{IsDistinct, AllByRecursion, position_or_len, list_any, cons_option}
use Rattle.std.specs.Option.{option_and_then, option_map_or}
use Rattle.std.proofs.lemmas.Option.{slice_get_within, slice_get-get_or}
use Rattle.std.proofs.lemmas.List.{at_drop_more}
use Rattle.std.proofs.lemmas.List.Elements.{filter_map-append}
use Rattle.std.proofs.lemmas.List.Folds.{list_any_more}
use Rattle.pol_names.specs.SameService.{same_service, same_service-Decides}
use Rattle.pol_names.specs.declared.service.ServiceId.{ServiceId}
use Rattle.pol_names.specs.declared.service.ServiceLine.{ServiceLine}
use Rattle.pol_text.specs.declared.subject.Subject.{Subject}
use Rattle.pol_text.specs.Policy.{parent_of, chain_within}
use Rattle.pol_text.proofs.ChainFacts.{chain_within_step, chain_within_none}
use Rattle.pol_given.specs.Given.{the_shell, is_about, given_by, speaks_of, first_speaking, speaking, service_arguments}
use Rattle.pol_meaning.specs.SameChange.{same_reply-Decides}
use Rattle.pol_meaning.specs.ServiceChanges.{shell_reply, reply_of, service_change}
use Rattle.pol_meaning.specs.declared.ServiceChange.{ServiceChange}
use Rattle.pol_report.specs.Asking.{AreMarked, AreAsked}

-- ---- where a service is found

all_at : {A : Type 0} (P : A → Type 0) (xs : List A) (place : ℕ) (x : A) → AllByRecursion P xs → slice_get xs place ≡ Some x → P x
all_at P [] place x each here = absurd cc
all_at P (y ∷ ys) zero x each here = subst P (cc) each.0
all_at P (y ∷ ys) (suc place) x each here = all_at P ys place x each.1 here

-- where all services differ, each is found at its place
at_place : (services : List ServiceId) (service : ServiceId) (place : ℕ) → IsDistinct same_service services → slice_get services place ≡ Some service
    → position_or_len (same_service service) services ≡ place
unfolding IsDistinct
at_place [] service place distinct here = absurd cc
at_place (x ∷ rest) service zero distinct here =
    let own : same_service service x ≡ true = (same_service-Decides service x).1 (cc) in
    ap (λ (own : Bool). cond (not own) (1 + position_or_len (same_service service) rest) 0) own
at_place (x ∷ rest) service (suc place) distinct here =
    by (same_service service x) refl (at_place rest service place distinct.1 here)
  where
    by : (own : Bool) → same_service service x ≡ own → position_or_len (same_service service) rest ≡ place
        → cond (not own) (1 + position_or_len (same_service service) rest) 0 ≡ suc place
    by true own later =
        let apart : same_service x service ≡ false = all_at (λ y. same_service x y ≡ false) rest place service distinct.0 here in
        let same : same_service x service ≡ true = (same_service-Decides x service).1 (sym ((same_service-Decides service x).0 own)) in
        absurd cc
    by false own later = omega arith

pub found : (services : List ServiceId) (service : ServiceId) (place : ℕ) → IsDistinct same_service services → slice_get services place ≡ Some service
    → position (same_service service) services ≡ Some place
found services service place distinct here =
    let first : position_or_len (same_service service) services ≡ place = at_place services service place distinct here in
    let within : place < length services = slice_get_within services place service here in
    let inside : nat_lt place (length services) ≡ true = grind arith in
    ap (λ (n : ℕ). cond (nat_lt n (length services)) (Some n) None) first ∙ ap (λ (b : Bool). cond b (Some place) None) inside

-- ---- marks

-- a place without a mark isn't the one that was just marked
unmarked_before : (marks : List Bool) (at place : ℕ) → slice_get (set marks at true) place ≡ Some false → (slice_get marks place ≡ Some false) × (place ≡ at → ⊥)
unmarked_before [] at place none = absurd cc
unmarked_before (x ∷ marks) zero zero none = absurd cc
unmarked_before (x ∷ marks) zero (suc place) none = (none, λ same. absurd cc)
unmarked_before (x ∷ marks) (suc at) zero none = (none, λ same. absurd cc)
unmarked_before (x ∷ marks) (suc at) (suc place) none =
    let before = unmarked_before marks at place none in
    (before.0, λ same. before.1 (omega arith))

module _ (services : List ServiceId) (service : ServiceId) where
  -- a service that is found elsewhere is another one
  other_than : (other : ServiceId) → (position (same_service service) services ≡ position (same_service other) services → ⊥) → same_service other service ≡ false
  other_than other elsewhere = by (same_service other service) refl
    where
      by : (same : Bool) → same_service other service ≡ same → same ≡ false
      by true same = absurd (elsewhere (ap (λ (s : ServiceId). position (same_service s) services) (sym ((same_service-Decides other service).0 same))))
      by false same = refl

  pub marked_at : (at : ℕ) (marks : List Bool) → position (same_service service) services ≡ Some at → AreMarked services (λ other. same_service other service) marks (set marks at true)
  marked_at at marks is other place here none =
      let before = unmarked_before marks at place none in
      (before.0, other_than other (λ same. before.1 (cc)))

  pub marked_nowhere : (marks : List Bool) → position (same_service service) services ≡ None → AreMarked services (λ other. same_service other service) marks marks
  marked_nowhere marks is other place here none = (none, other_than other (λ same. absurd cc))

-- ---- in lines

-- the lines up to this one are about other services
pub silent_more : (service : ServiceId) (lines : List ServiceLine) (i : ℕ) (line : ServiceLine) → i < length lines → line ≡ get_or lines i line
    → list_any (is_about service) (take i lines) ≡ false → is_about service line ≡ false → list_any (is_about service) (take (i + 1) lines) ≡ false
silent_more service lines i line lt here before now =
    list_any_more (is_about service) lines i line lt
    ∙ ap (λ (b : Bool). b || is_about service (get_or lines i line)) before
    ∙ ap (is_about service) (sym here) ∙ now

-- ---- along a chain

pub first_step : (service : ServiceId) (policy : List Subject) (subject : Subject) (i : ℕ) (parent : Option Subject) → i < 8 → parent_of policy subject ≡ parent → speaks_of service subject ≡ false
    → first_speaking service (chain_within (8 - i) policy subject) ≡ first_speaking service (option_map_or (chain_within (8 - (i + 1)) policy) parent [])
first_step service policy subject i parent lt e silent =
    ap (first_speaking service) (chain_within_step policy subject 8 i parent lt e)
    ∙ ap (λ (speaks : Bool). cond speaks (Some subject) (first_speaking service (option_map_or (chain_within (8 - (i + 1)) policy) parent []))) silent

pub first_end : (service : ServiceId) (policy : List Subject) (subject : Subject) (i : ℕ) → 8 ≤ i → first_speaking service (chain_within (8 - i) policy subject) ≡ None
first_end service policy subject i past =
    let none_left : 8 - i ≡ 0 = omega arith in
    ap (λ (n : ℕ). first_speaking service (chain_within n policy subject)) none_left ∙ ap (first_speaking service) (chain_within_none policy subject)

-- ---- of whom nobody speaks

pub is_none : {A : Type 0} (option : Option A) → is_some option ≡ false → option ≡ None
is_none None none = refl
is_none (Some x) none = absurd cc

silent_reply : (policy : List Subject) (user : List ℕ) (service : ServiceId) → same_service service the_shell ≡ false → speaking policy user service ≡ None → reply_of policy user service ≡ None
silent_reply policy user service other silent =
    ap (λ (shell : Bool). if shell then Some (shell_reply policy user) else service_arguments policy user service) other ∙ ap (option_and_then (given_by service)) silent

-- what neither policy says of a service other than the shell can't change
pub silent_change : (before after : List Subject) (user : List ℕ) (service : ServiceId) → same_service service the_shell ≡ false
    → is_some (speaking before user service) ≡ false → is_some (speaking after user service) ≡ false → service_change before after user service ≡ None
silent_change before after user service other was is =
    let same : reply_of before user service ≡ reply_of after user service =
    silent_reply before user service other (is_none (speaking before user service) was) ∙ sym (silent_reply after user service other (is_none (speaking after user service) is)) in
    let told = (same_reply-Decides (reply_of before user service) (reply_of after user service)).1 same in
    ap (λ (same : Bool). if same then None else Some (record { user = user; service = service; was = reply_of before user service; is = reply_of after user service })) told

-- ---- what is listed, a place at a time

module _ (change : ServiceId → Option ServiceChange) (services : List ServiceId) (place : ℕ) (here : place < length services) where
  abbrev left : List ServiceChange
  left = filter_map change (drop (place + 1) services)

  from_here : (service : ServiceId) → filter_map change (drop place services) ≡ cons_option (change (get_or services place service)) left
  from_here service = at_drop_more (filter_map change) services place service here

  -- of a service without a mark nothing changes
  pub passed_over : (marks : List Bool) (keys : List ServiceId) → services ≡ keys → IsDistinct same_service keys → AreAsked keys change marks → length marks ≡ length keys
      → get_or marks place false ≡ false → left ≡ filter_map change (drop place services)
  passed_over marks keys same distinct asked full none =
      let service = get_or services place the_shell in
      let at : position (same_service service) services ≡ Some place = found services service place (subst (IsDistinct same_service) (sym same) distinct) (slice_get-get_or services place the_shell here) in
      let long : length marks ≡ length services = full ∙ ap length (sym same) in
      let unmarked : slice_get marks place ≡ Some false = slice_get-get_or marks place false (rw long here) ∙ ap Some none in
      let nothing : change service ≡ None = asked service place (ap (position (same_service service)) (sym same) ∙ at) unmarked in
      sym (from_here the_shell ∙ ap (λ (first : Option ServiceChange). cons_option first left) nothing)

  -- what changes for a service with one is listed
  pub taken_in : {total : List ServiceChange} (changes new : List ServiceChange) (service : ServiceId) → service ≡ get_or services place service → new ≡ changes ++ filter_map change (service ∷ [])
      → changes ++ filter_map change (drop place services) ≡ total → new ++ left ≡ total
  taken_in changes new service read listed before =
      ap (λ (front : List ServiceChange). front ++ left) listed
      ∙ append_assoc changes (filter_map change (service ∷ [])) left
      ∙ ap (λ (back : List ServiceChange). changes ++ back)
      (sym (filter_map-append change (service ∷ []) (drop (place + 1) services))
      ∙ ap (λ (first : ServiceId). cons_option (change first) left) read
      ∙ sym (from_here service))
      ∙ before
