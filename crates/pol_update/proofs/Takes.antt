-- Edits that a policy takes, and what they turn its subject into.
use Rattle.std.proofs.Common.{◌≡◌, ℕ, zero, suc, ◌+◌, ◌-◌, ◌<◌, ◌&&◌, ◌||◌, ◌==◌, not, Bool, true, false, true≢false, is_some, get_or, nat_le, List, [], ◌∷◌, ◌++◌, length, insert, remove, take, drop, Option, Some, None, Result, Ok, Err, OnOk, refl, sym, ap, subst, ◌∙◌, arith, ◌≤◌, length-append}
use Rattle.std.specs.Option.{option_map, option_copied, option_eq}
use Rattle.std.specs.Borrow.{Bor}
use Rattle.std.specs.List.{filter, list_all}
use Rattle.std.specs.Str.{bytes_eq}
use Rattle.std.specs.Cmp.{unsigned_Decides}
use Rattle.std.proofs.lemmas.Slice.Eq.{bytes_eq-Decides}
use Rattle.std.proofs.lemmas.Bool.{and_parts, and_from}
use Rattle.std.proofs.lemmas.Bool.Decides.{nat_tests}
use Rattle.std.proofs.lemmas.List.Edits.{insert_end}
use Rattle.std.proofs.lemmas.List.{length-take, take-append-drop}
use Rattle.std.proofs.lemmas.List.Folds.{list_all-append}
use Rattle.std.proofs.Math.Seq.{take-suc}
use Rattle.pol_pattern.specs.Reading.{pattern_of}
use Rattle.sha_crypt.proofs.TextFacts.{again}
use Rattle.pol_names.specs.Kept.{is_right_secret, same_secret, same_secret-Decides}
use Rattle.pol_names.specs.declared.secret.Secret.{Secret}
use Rattle.pol_names.specs.declared.secret.Secret.TheVariants.{Clear, Hashed}
use Rattle.pol_names.specs.Service.{is_service, may_say, is_right_line, any_clash, is_cleared, allowing}
use Rattle.pol_names.specs.SameService.{same_service, same_service-Decides}
use Rattle.pol_names.specs.declared.service.ServiceId.{ServiceId}
use Rattle.pol_names.specs.declared.service.ServiceLine.{ServiceLine}
use Rattle.pol_names.specs.SubjectId.{same_kind, user_id}
use Rattle.pol_names.specs.declared.secret.Credential.{Credential}
use Rattle.pol_names.specs.declared.secret.Credential.TheVariants.{Login, Enable}
use Rattle.pol_names.specs.declared.subject_id.Kind.{Kind}
use Rattle.pol_names.specs.declared.subject_id.Kind.TheVariants.{Group, User}
use Rattle.pol_names.specs.declared.subject_id.SubjectId.{SubjectId}
use Rattle.pol_names.specs.declared.decision.Verdict.{Verdict}
use Rattle.pol_text.specs.declared.subject.Rule.{Rule}
use Rattle.pol_text.specs.declared.subject.Subject.{Subject}
use Rattle.pol_text.specs.Policy.{WellFormed, id_of, find_subject, all_of, is_right_subject, are_right_lines, max_rules, max_services, max_subjects}
use Rattle.pol_text.proofs.Keeps.{same_id_is, all_found, found_same}
use Rattle.pol_text.proofs.RightSubject.{right_parts}
use Rattle.pol_text.proofs.ServiceLines.{lines_parts, lines_front, few_filter, none_before}
use Rattle.pol_text.specs.Setting.{secret_for}
use Rattle.pol_text.specs.Text.{new_subject}
use Rattle.pol_text.specs.Change.{with_changed, without, is_parent, chain_fault, with_parent, with_secret, with_priv, with_line_last, without_service, with_rule_at, without_rule_at}
use Rattle.pol_edit.specs.declared.edit.Edit.{Edit}
use Rattle.pol_edit.specs.declared.edit.Edit.TheVariants.{Remove, SetParent, SetPriv, AddService, ClearService, InsertRule, RemoveRule}
use Rattle.pol_edit.specs.Applying.{applied, added_to, removed_from, moved_in, set_in, said_in, inserted_in, dropped_in, has_group, is_number}
use Rattle.pol_update.specs.Update.{IsAlike, subject_of}
use Rattle.pol_update.specs.Planning.{IsTurned, secret_edit, bare_edit, of_others, with_others, with_services, with_rules, with_secrets}
use Rattle.pol_update.specs.declared.plan.Plan.{Plan}
use Rattle.pol_update.proofs.Turns.{turns_changed, turns_gone, turns_added, turned_by, turned_again, turned_own}

-- ---- which policy an edit makes

takes_parent : (p : List Subject) (id : SubjectId) (parent : Option (List ℕ)) (s : Subject) → find_subject id p ≡ Some s → has_group parent p ≡ true
    → chain_fault (with_changed id (with_parent parent) p) ≡ None → applied p (SetParent id parent) ≡ Ok (with_changed id (with_parent parent) p)
unfolding applied moved_in
takes_parent p id parent s found group fine = rw (found, group, fine) refl

takes_gone : (p : List Subject) (id : SubjectId) (s : Subject) → find_subject id p ≡ Some s → (same_kind id.kind Group && is_parent id.name p) ≡ false → applied p (Remove id) ≡ Ok (without id p)
unfolding applied removed_from
takes_gone p id s found unused = rw (found, unused) refl

takes_added : (p : List Subject) (kind : Kind) (name : List ℕ) → find_subject (record { kind = kind; name = name }) p ≡ None → nat_le max_subjects (length p) ≡ false
    → applied p (bare_edit kind name) ≡ Ok (p ++ new_subject kind name None ∷ [])
unfolding applied added_to
takes_added p Group name absent room = rw (absent, room) refl
takes_added p User name absent room = rw (absent, room) refl

takes_secret : (p : List Subject) (credential : Credential) (user : List ℕ) (secret : Option Secret) (s : Subject) → find_subject (user_id user) p ≡ Some s → all_of is_right_secret secret ≡ true
    → applied p (secret_edit credential user secret) ≡ Ok (with_changed (user_id user) (with_secret credential secret) p)
unfolding applied set_in
takes_secret p Login user None s found right = rw found refl
takes_secret p Enable user None s found right = rw found refl
takes_secret p Login user (Some (Clear text)) s found right = rw (found, right) refl
takes_secret p Enable user (Some (Clear text)) s found right = rw (found, right) refl
takes_secret p credential user (Some (Hashed hash)) s found right = rw (found, again hash right) refl

takes_level : (p : List Subject) (id : SubjectId) (level : Option ℕ) (s : Subject) → find_subject id p ≡ Some s → all_of (λ n. nat_le n 15) level ≡ true
    → applied p (SetPriv id level) ≡ Ok (with_changed id (with_priv level) p)
unfolding applied set_in
takes_level p id level s found right = rw (found, right) refl

takes_drop : (p : List Subject) (id : SubjectId) (s : Subject) → find_subject id p ≡ Some s → is_number 1 (length s.rules) ≡ true
    → applied p (RemoveRule id 1) ≡ Ok (with_changed id (without_rule_at 0) p)
unfolding applied dropped_in
takes_drop p id s found number = rw (found, number) refl

takes_rule : (p : List Subject) (id : SubjectId) (at : ℕ) (verdict : Verdict) (pattern : List ℕ) (s : Subject) → find_subject id p ≡ Some s → is_number at (length s.rules + 1) ≡ true
    → pattern_of pattern ≡ Ok pattern → nat_le max_rules (length s.rules) ≡ false
    → applied p (InsertRule id at verdict pattern) ≡ Ok (with_changed id (with_rule_at (at - 1) (record { verdict = verdict; pattern = pattern })) p)
unfolding applied inserted_in
takes_rule p id at verdict pattern s found number reads room = rw (found, number, reads, room) refl

takes_clear : (p : List Subject) (id : SubjectId) (service : ServiceId) (s : Subject) → find_subject id p ≡ Some s → is_right_line (allowing service None) ≡ true
    → applied p (ClearService id service None) ≡ Ok (with_changed id (without_service service None) p)
unfolding applied set_in
takes_clear p id service s found right = rw (found, right) refl

takes_said : (p : List Subject) (id : SubjectId) (line : ServiceLine) (s : Subject) → find_subject id p ≡ Some s → any_clash s.services line ≡ false → is_right_line line ≡ true
    → nat_le max_services (length s.services) ≡ false → applied p (AddService id line) ≡ Ok (with_changed id (with_line_last line) p)
unfolding applied said_in
takes_said p id line s found apart right room = rw (found, apart, right, room) refl

-- ---- the plan after it

-- what is said of a plan that an edit is added to
abbrev pub Added : {E : Type 0} → Result (Unit {0}) E → Plan → Plan → Edit → Type 0
Added r before now edit =
    (n : List Subject) → applied before.made edit ≡ Ok n → ¬ IsAlike n before.made (subject_of edit) → OnOk r ((now.made ≡ n) × (now.edits ≡ before.edits ++ edit ∷ []))

is_other : (p : List Subject) (id : SubjectId) (f : Subject → Subject) (s : Subject) → find_subject id p ≡ Some s → ¬ (f s ≡ s) → ¬ (option_map f (find_subject id p) ≡ find_subject id p)
is_other p id f s found differs e =
    let same : Some (f s) ≡ Some s = subst (λ (o : Option Subject). option_map f o ≡ o) found e in
    differs (cc)

pub parent_turned : {E : Type 0} (r : Result (Unit {0}) E) (id : SubjectId) (parent : Option (List ℕ)) (s : Subject) (before now : Plan) → WellFormed before.made → find_subject id before.made ≡ Some s
    → ¬ (s.parent ≡ parent) → has_group parent before.made ≡ true → chain_fault (with_changed id (with_parent parent) before.made) ≡ None → Added r before now (SetParent id parent)
    → OnOk r (IsTurned id (option_map (with_parent parent) (find_subject id before.made)) before now)
parent_turned r id parent s before now w found differs group fine added =
    turned_by r (SetParent id parent) id (option_map (with_parent parent) (find_subject id before.made)) before now (with_changed id (with_parent parent) before.made) refl w
    (takes_parent before.made id parent s found group fine) (turns_changed id (with_parent parent) before.made (λ t. refl))
    (is_other before.made id (with_parent parent) s found (λ e. differs (sym (ap (λ (t : Subject). t.parent) e)))) added

pub gone_turned : {E : Type 0} (r : Result (Unit {0}) E) (id : SubjectId) (s : Subject) (before now : Plan) → WellFormed before.made → find_subject id before.made ≡ Some s
    → (same_kind id.kind Group && is_parent id.name before.made) ≡ false → Added r before now (Remove id) → OnOk r (IsTurned id None before now)
gone_turned r id s before now w found unused added =
    turned_by r (Remove id) id None before now (without id before.made) refl w (takes_gone before.made id s found unused) (turns_gone id before.made)
    (λ e. let both : None ≡ Some s = e ∙ found in absurd cc) added

pub added_turned : {E : Type 0} (r : Result (Unit {0}) E) (kind : Kind) (name : List ℕ) (before now : Plan) → WellFormed before.made → find_subject (record { kind = kind; name = name }) before.made ≡ None
    → length before.made < max_subjects → Added r before now (bare_edit kind name) → OnOk r (IsTurned (record { kind = kind; name = name }) (Some (new_subject kind name None)) before now)
added_turned r kind name before now w absent room added =
    turned_by r (bare_edit kind name) (record { kind = kind; name = name }) (Some (new_subject kind name None)) before now (before.made ++ new_subject kind name None ∷ []) (of kind) w
    (takes_added before.made kind name absent (grind (arith, nat_tests))) (turns_added (new_subject kind name None) before.made absent)
    (λ e. let both : Some (new_subject kind name None) ≡ None = e ∙ absent in absurd cc) added
  where
    of : (kind : Kind) → subject_of (bare_edit kind name) ≡ record { kind = kind; name = name }
    of Group = refl
    of User = refl

secret_set : (credential : Credential) (secret : Option Secret) (s : Subject) → secret_for credential (with_secret credential secret s) ≡ secret
secret_set Login secret s = refl
secret_set Enable secret s = refl

secret_keeps : (credential : Credential) (secret : Option Secret) (s : Subject) → id_of (with_secret credential secret s) ≡ id_of s
secret_keeps Login secret s = refl
secret_keeps Enable secret s = refl

pub secret_turned : {E : Type 0} (r : Result (Unit {0}) E) (credential : Credential) (user : List ℕ) (secret : Option Secret) (s : Subject) (before now : Plan) → WellFormed before.made
    → find_subject (user_id user) before.made ≡ Some s → ¬ (secret_for credential s ≡ secret) → all_of is_right_secret secret ≡ true → Added r before now (secret_edit credential user secret)
    → OnOk r (IsTurned (user_id user) (option_map (with_secret credential secret) (find_subject (user_id user) before.made)) before now)
secret_turned r credential user secret s before now w found differs right added =
    turned_by r (secret_edit credential user secret) (user_id user) (option_map (with_secret credential secret) (find_subject (user_id user) before.made)) before now
    (with_changed (user_id user) (with_secret credential secret) before.made) (of credential secret) w
    (takes_secret before.made credential user secret s found right) (turns_changed (user_id user) (with_secret credential secret) before.made (secret_keeps credential secret))
    (is_other before.made (user_id user) (with_secret credential secret) s found (λ e. differs (sym (ap (secret_for credential) e) ∙ secret_set credential secret s))) added
  where
    of : (credential : Credential) (secret : Option Secret) → subject_of (secret_edit credential user secret) ≡ user_id user
    of Login None = refl
    of Enable None = refl
    of Login (Some (Clear text)) = refl
    of Enable (Some (Clear text)) = refl
    of credential (Some (Hashed hash)) = refl

pub level_turned : {E : Type 0} (r : Result (Unit {0}) E) (id : SubjectId) (level : Option ℕ) (s : Subject) (before now : Plan) → WellFormed before.made → find_subject id before.made ≡ Some s
    → ¬ (s.priv_lvl ≡ level) → all_of (λ n. nat_le n 15) level ≡ true → Added r before now (SetPriv id level)
    → OnOk r (IsTurned id (option_map (with_priv level) (find_subject id before.made)) before now)
level_turned r id level s before now w found differs right added =
    turned_by r (SetPriv id level) id (option_map (with_priv level) (find_subject id before.made)) before now (with_changed id (with_priv level) before.made) refl w
    (takes_level before.made id level s found right) (turns_changed id (with_priv level) before.made (λ t. refl))
    (is_other before.made id (with_priv level) s found (λ e. differs (sym (ap (λ (t : Subject). t.priv_lvl) e)))) added

shorter : {X : Type 0} (xs : List X) → 0 < length xs → ¬ (remove xs 0 ≡ xs)
shorter [] some e = absurd (omega (arith, some))
shorter (x ∷ xs) some e = let same : length xs ≡ suc (length xs) = ap length e in absurd (omega (arith, same))

pub drop_turned : {E : Type 0} (r : Result (Unit {0}) E) (id : SubjectId) (s : Subject) (before now : Plan) → WellFormed before.made → find_subject id before.made ≡ Some s
    → 0 < length s.rules → Added r before now (RemoveRule id 1) → OnOk r (IsTurned id (option_map (without_rule_at 0) (find_subject id before.made)) before now)
drop_turned r id s before now w found some added =
    turned_by r (RemoveRule id 1) id (option_map (without_rule_at 0) (find_subject id before.made)) before now (with_changed id (without_rule_at 0) before.made) refl w
    (takes_drop before.made id s found (grind (arith, nat_tests))) (turns_changed id (without_rule_at 0) before.made (λ t. refl))
    (is_other before.made id (without_rule_at 0) s found (λ e. shorter s.rules some (ap (λ (t : Subject). t.rules) e))) added

longer : {X : Type 0} (xs : List X) (x : X) → ¬ (xs ++ x ∷ [] ≡ xs)
longer {X = X} [] x e = absurd cc
longer {X = X} (y ∷ xs) x e = longer xs x (ap tail e)
  where
    tail : List X → List X
    tail [] = []
    tail (z ∷ zs) = zs

pub rule_turned : {E : Type 0} (r : Result (Unit {0}) E) (id : SubjectId) (place at : ℕ) (rule : Rule) (s : Subject) (before now : Plan) → WellFormed before.made → find_subject id before.made ≡ Some s
    → length s.rules ≡ place → place < max_rules → at ≡ place + 1 → pattern_of rule.pattern ≡ Ok rule.pattern → Added r before now (InsertRule id at rule.verdict rule.pattern)
    → OnOk r (IsTurned id (option_map (with_rule_at place rule) (find_subject id before.made)) before now)
rule_turned r id place at rule s before now w found last room number reads added =
    turned_by r (InsertRule id at rule.verdict rule.pattern) id (option_map (with_rule_at place rule) (find_subject id before.made)) before now (with_changed id (with_rule_at place rule) before.made) refl w
    (takes_rule before.made id at rule.verdict rule.pattern s found (grind (arith, nat_tests)) reads (grind (arith, nat_tests)) ∙ ap (λ (k : ℕ). Ok (with_changed id (with_rule_at k rule) before.made)) place_is)
    (turns_changed id (with_rule_at place rule) before.made (λ t. refl))
    (is_other before.made id (with_rule_at place rule) s found (λ e. longer s.rules rule (sym (ap (λ (k : ℕ). insert s.rules k rule) (sym last) ∙ insert_end s.rules rule) ∙ ap (λ (t : Subject). t.rules) e))) added
  where
    place_is : at - 1 ≡ place
    place_is = omega (arith, number)

-- ---- lines about services

service_self : (service : ServiceId) → same_service service service ≡ true
service_self service = (same_service-Decides service service).1 refl

-- the first goes with those of its service
first_goes : (line : ServiceLine) (rest : List ServiceLine) → of_others (line ∷ rest) ≡ filter (λ other. not (is_cleared line.service None other)) rest
first_goes line rest = rw (service_self line.service) refl

others_fewer : (lines : List ServiceLine) → length (of_others lines) ≤ length lines - 1
others_fewer [] = omega arith
others_fewer (line ∷ rest) =
    let is : length (of_others (line ∷ rest)) ≡ length (filter (λ other. not (is_cleared line.service None other)) rest) = ap length (first_goes line rest) in
    let fewer = few_filter (λ other. not (is_cleared line.service None other)) rest in
    omega arith

-- services cleared one after another
pub cleared : ℕ → List ServiceLine → List ServiceLine
cleared zero lines = lines
cleared (suc k) lines = of_others (cleared k lines)

cleared_fewer : (k : ℕ) (lines : List ServiceLine) → length (cleared k lines) ≤ length lines - k
unfolding cleared
cleared_fewer zero lines = omega arith
cleared_fewer (suc k) lines =
    let fewer = others_fewer (cleared k lines) in
    let before = cleared_fewer k lines in
    omega arith

no_lines : (lines : List ServiceLine) → length lines ≤ 0 → lines ≡ []
no_lines [] h = refl
no_lines (line ∷ rest) h = absurd (omega (arith, h))

cleared_all : (k : ℕ) (lines : List ServiceLine) → length lines ≤ k → cleared k lines ≡ []
cleared_all k lines e = no_lines (cleared k lines) (let fewer = cleared_fewer k lines in omega arith)

others_of : (lines rest : List ServiceLine) (line : ServiceLine) → lines ≡ line ∷ rest → of_others lines ≡ filter (λ other. not (is_cleared line.service None other)) lines
others_of lines rest line e = rw e refl

fewer_others : (lines rest : List ServiceLine) (line : ServiceLine) → lines ≡ line ∷ rest → ¬ (filter (λ other. not (is_cleared line.service None other)) lines ≡ lines)
fewer_others lines rest line e same =
    let others : of_others lines ≡ lines = others_of lines rest line e ∙ same in
    let long : length (of_others lines) ≡ length lines = ap length others in
    let some : length lines ≡ suc (length rest) = ap length e in
    let fewer = others_fewer lines in
    absurd (omega arith)

pub first_turned : {E : Type 0} (r : Result (Unit {0}) E) (id : SubjectId) (line : ServiceLine) (rest : List ServiceLine) (s : Subject) (before now : Plan) → WellFormed before.made
    → find_subject id before.made ≡ Some s → s.services ≡ line ∷ rest → Added r before now (ClearService id line.service None)
    → OnOk r (IsTurned id (option_map with_others (find_subject id before.made)) before now)
first_turned r id line rest s before now w found has added =
    let clear : Subject → Subject = without_service line.service None in
    let lines = lines_parts s.services (right_parts s (all_found is_right_subject id before.made s w.right found)).services in
    let all : list_all is_right_line (line ∷ rest) ≡ true = sym (ap (list_all is_right_line) has) ∙ lines.each in
    let first = (and_parts (is_right_line line) (list_all is_right_line rest) all).0 in
    let right : is_right_line (allowing line.service None) ≡ true = and_from (is_service line.service) true (and_parts (is_service line.service) (may_say line.service line.says) first).0 refl in
    let same : option_map with_others (find_subject id before.made) ≡ option_map clear (find_subject id before.made) =
    rw found (ap (λ (l : List ServiceLine). Some (with_services l s)) (others_of s.services rest line has)) in
    subst (λ (o : Option Subject). OnOk r (IsTurned id o before now)) (sym same)
    (turned_by r (ClearService id line.service None) id (option_map clear (find_subject id before.made)) before now (with_changed id clear before.made) refl w
    (takes_clear before.made id line.service s found right) (turns_changed id clear before.made (λ t. refl))
    (is_other before.made id clear s found (λ e. fewer_others s.services rest line has (ap (λ (t : Subject). t.services) e))) added)

pub line_turned : {E : Type 0} (r : Result (Unit {0}) E) (id : SubjectId) (line : ServiceLine) (s : Subject) (before now : Plan) → WellFormed before.made → find_subject id before.made ≡ Some s
    → are_right_lines (s.services ++ line ∷ []) ≡ true → Added r before now (AddService id line)
    → OnOk r (IsTurned id (option_map (with_line_last line) (find_subject id before.made)) before now)
line_turned r id line s before now w found right added =
    let lines = lines_parts (s.services ++ line ∷ []) right in
    let all = sym (list_all-append is_right_line s.services (line ∷ [])) ∙ lines.each in
    let last = (and_parts (list_all is_right_line s.services) (list_all is_right_line (line ∷ [])) all).1 in
    let long = length-append s.services (line ∷ []) in
    let few = lines.few in
    let room : nat_le max_services (length s.services) ≡ false = grind (arith, nat_tests) in
    turned_by r (AddService id line) id (option_map (with_line_last line) (find_subject id before.made)) before now (with_changed id (with_line_last line) before.made) refl w
    (takes_said before.made id line s found (none_before s.services [] line lines.apart) (and_parts (is_right_line line) true last).0 room) (turns_changed id (with_line_last line) before.made (λ t. refl))
    (is_other before.made id (with_line_last line) s found (λ e. longer s.services line (ap (λ (t : Subject). t.services) e))) added

-- ---- rules, one after another

pub drop_more : {X : Type 0} (k : ℕ) (xs : List X) → remove (drop k xs) 0 ≡ drop (suc k) xs
drop_more zero [] = refl
drop_more zero (x ∷ xs) = refl
drop_more (suc k) [] = refl
drop_more (suc k) (x ∷ xs) = drop_more k xs

-- ---- what functions know

-- the first of k + 1 rules is dropped when k were
pub dropped_next : (k : ℕ) (o : Option Subject) → option_map (without_rule_at 0) (option_map (λ (s : Subject). with_rules (drop k s.rules) s) o) ≡ option_map (λ (s : Subject). with_rules (drop (k + 1) s.rules) s) o
dropped_next k None = refl
dropped_next k (Some s) =
    let next : k + 1 ≡ suc k = omega arith in
    rw next (ap (λ (rules : List Rule). Some (with_rules rules s)) (drop_more k s.rules))

-- services are cleared one after another, until none is left
pub cleared_next : (k : ℕ) (o : Option Subject) → option_map with_others (option_map (λ (s : Subject). with_services (cleared k s.services) s) o) ≡ option_map (λ (s : Subject). with_services (cleared (k + 1) s.services) s) o
unfolding cleared
cleared_next k None = refl
cleared_next k (Some s) = let next : k + 1 ≡ suc k = omega arith in rw next refl

pub cleared_start : (o : Option Subject) → o ≡ option_map (λ (s : Subject). with_services (cleared 0 s.services) s) o
unfolding cleared
cleared_start None = refl
cleared_start (Some s) = refl

pub cleared_end : (k n : ℕ) (o : Option Subject) → n ≤ k → ((s : Subject) → o ≡ Some s → n ≡ length s.services) → option_map (λ (s : Subject). with_services (cleared k s.services) s) o ≡ option_map (with_services []) o
cleared_end k n None all counts = refl
cleared_end k n (Some s) all counts =
    let count = counts s refl in
    ap (λ (l : List ServiceLine). Some (with_services l s)) (cleared_all k s.services (omega arith))

-- a line comes after those before it
pub lined_next : (k : ℕ) (lines : List ServiceLine) (line : ServiceLine) (o : Option Subject) → k < length lines → line ≡ get_or lines k line
    → option_map (with_line_last line) (option_map (with_services (take k lines)) o) ≡ option_map (with_services (take (k + 1) lines)) o
lined_next k lines line None lt item = refl
lined_next k lines line (Some s) lt item =
    let next : k + 1 ≡ suc k = omega arith in
    let more : take (suc k) lines ≡ take k lines ++ line ∷ [] = take-suc lines k line lt ∙ ap (λ (l : ServiceLine). take k lines ++ l ∷ []) (sym item) in
    rw (next, more) refl

-- a rule comes after those before it
pub ruled_next : (k : ℕ) (rules : List Rule) (rule : Rule) (o : Option Subject) → k < length rules → rule ≡ get_or rules k rule
    → option_map (with_rule_at k rule) (option_map (with_rules (take k rules)) o) ≡ option_map (with_rules (take (k + 1) rules)) o
ruled_next k rules rule None lt item = refl
ruled_next k rules rule (Some s) lt item =
    let next : k + 1 ≡ suc k = omega arith in
    let long : length (take k rules) ≡ k = omega (arith, length-take k rules) in
    let more : take (suc k) rules ≡ take k rules ++ rule ∷ [] = take-suc rules k rule lt ∙ ap (λ (r : Rule). take k rules ++ r ∷ []) (sym item) in
    let put : insert (take k rules) k rule ≡ take k rules ++ rule ∷ [] = ap (λ (n : ℕ). insert (take k rules) n rule) (sym long) ∙ insert_end (take k rules) rule in
    rw (next, more) (ap (λ (r : List Rule). Some (with_rules r s)) put)

-- a group has no secrets, in the policy or in what it is to be
pub group_secrets : (p : List Subject) (x s : Subject) → WellFormed p → is_right_subject x ≡ true → find_subject (id_of x) p ≡ Some s → s.kind ≡ Group → find_subject (id_of x) p ≡ option_map (with_secrets x) (find_subject (id_of x) p)
group_secrets p x s w right found group =
    let same : id_of x ≡ id_of s = same_id_is (id_of x) (id_of s) (found_same (id_of x) p s found) in
    let kind : x.kind ≡ Group = ap (λ (i : SubjectId). i.kind) same ∙ group in
    let ours = none_in x right kind in
    let theirs = none_in s (all_found is_right_subject (id_of x) p s w.right found) group in
    rw found (ap Some (by (sym theirs.0 ∙ ours.0) (sym theirs.1 ∙ ours.1)))
  where
    none_by : (k : Kind) (a b : Option Secret) → k ≡ Group → (same_kind k User || not (is_some a || is_some b)) ≡ true → (None ≡ a) × (None ≡ b)
    none_by Group None None e h = (refl, refl)
    none_by Group (Some a) b e h = absurd cc
    none_by Group None (Some b) e h = absurd cc
    none_by User a b e h = absurd cc

    none_in : (t : Subject) → is_right_subject t ≡ true → t.kind ≡ Group → (None ≡ t.login) × (None ≡ t.enable)
    none_in t r e = none_by t.kind t.login t.enable e (right_parts t r).secrets

    by : s.login ≡ x.login → s.enable ≡ x.enable → s ≡ with_secrets x s
    by login enable = ap (λ (v : Option Secret). record s { login = v }) login ∙ ap (λ (v : Option Secret). record s { login = x.login; enable = v }) enable

pub both_secrets : (x : Subject) (o : Option Subject) → option_map (with_secret Enable x.enable) (option_map (with_secret Login x.login) o) ≡ option_map (with_secrets x) o
both_secrets x None = refl
both_secrets x (Some s) = refl

text_self : (o : Option (List ℕ)) → option_eq bytes_eq o o ≡ true
text_self None = refl
text_self (Some text) = (bytes_eq-Decides text text).1 refl

pub text_differs : (a b : Option (List ℕ)) (test : Bool) → test ≡ option_eq bytes_eq a b → test ≡ false → ¬ (a ≡ b)
text_differs a b test is apart same = absurd (true≢false (sym (is ∙ ap (option_eq bytes_eq a) (sym same) ∙ text_self a) ∙ apart))

secret_self : (o : Option Secret) → option_eq same_secret o o ≡ true
secret_self None = refl
secret_self (Some secret) = (same_secret-Decides secret secret).1 refl

pub secret_differs : (a b : Option Secret) (test : Bool) → test ≡ option_eq same_secret a b → test ≡ false → ¬ (a ≡ b)
secret_differs a b test is apart same = absurd (true≢false (sym (is ∙ ap (option_eq same_secret a) (sym same) ∙ secret_self a) ∙ apart))

level_self : (o : Option ℕ) → option_eq (λ m n. m == n) o o ≡ true
level_self None = refl
level_self (Some level) = (unsigned_Decides level level).1 refl

pub level_differs : (a b : Option ℕ) (test : Bool) → test ≡ option_eq (λ m n. m == n) a b → test ≡ false → ¬ (a ≡ b)
level_differs a b test is apart same = absurd (true≢false (sym (is ∙ ap (option_eq (λ m n. m == n) a) (sym same) ∙ level_self a) ∙ apart))

pub same_kind_is : (a b : Kind) → same_kind a b ≡ true → a ≡ b
same_kind_is Group Group e = refl
same_kind_is Group User e = absurd cc
same_kind_is User Group e = absurd cc
same_kind_is User User e = refl

-- who was looked up, and is there
pub gone_by : {E : Type 0} (r : Result (Unit {0}) E) (id : SubjectId) (o : Option (Bor Subject)) {none : Bool} (before now : Plan) → WellFormed before.made → option_copied o ≡ find_subject id before.made
    → is_some o ≡ not none → none ≡ false → (WellFormed before.made → (same_kind id.kind Group && is_parent id.name before.made) ≡ false) → Added r before now (Remove id) → OnOk r (IsTurned id None before now)
gone_by r id None before now w found is there unused added = absurd (true≢false (sym (is ∙ ap not there)))
gone_by r id (Some s) before now w found is there unused added = gone_turned r id s.now before now w (sym found) (unused w) added

pub rule_by : {E : Type 0} (r : Result (Unit {0}) E) (id : SubjectId) (o : Option (Bor Subject)) {none : Bool} (place : ℕ) (rule : Rule) (before now : Plan) → WellFormed before.made
    → option_copied o ≡ find_subject id before.made → is_some o ≡ not none → none ≡ false → ((s : Subject) → find_subject id before.made ≡ Some s → length s.rules ≡ place) → place < max_rules
    → pattern_of rule.pattern ≡ Ok rule.pattern → Added r before now (InsertRule id (place + 1) rule.verdict rule.pattern)
    → OnOk r (IsTurned id (option_map (with_rule_at place rule) (find_subject id before.made)) before now)
rule_by r id None place rule before now w found is there last room reads added = absurd (true≢false (sym (is ∙ ap not there)))
rule_by r id (Some s) place rule before now w found is there last room reads added = rule_turned r id place (place + 1) rule s.now before now w (sym found) (last s.now (sym found)) room refl reads added

pub line_by : {E : Type 0} (r : Result (Unit {0}) E) (id : SubjectId) (o : Option (Bor Subject)) {none : Bool} (line : ServiceLine) (before now : Plan) → WellFormed before.made
    → option_copied o ≡ find_subject id before.made → is_some o ≡ not none → none ≡ false → ((s : Subject) → find_subject id before.made ≡ Some s → are_right_lines (s.services ++ line ∷ []) ≡ true)
    → Added r before now (AddService id line) → OnOk r (IsTurned id (option_map (with_line_last line) (find_subject id before.made)) before now)
line_by r id None line before now w found is there fits added = absurd (true≢false (sym (is ∙ ap not there)))
line_by r id (Some s) line before now w found is there fits added = line_turned r id line s.now before now w (sym found) (fits s.now (sym found)) added

-- all that a subject has is given to another, which so becomes it
pub settled : {E : Type 0} (r : Result (Unit {0}) E) (x : Subject) (p a b d g h e f : Plan) → is_some (find_subject (id_of x) p.made) ≡ true
    → IsTurned (id_of x) (option_map (with_parent x.parent) (find_subject (id_of x) p.made)) p a
    → IsTurned (id_of x) (option_map (with_secrets x) (find_subject (id_of x) a.made)) a b
    → IsTurned (id_of x) (option_map (with_priv x.priv_lvl) (find_subject (id_of x) b.made)) b d
    → IsTurned (id_of x) (option_map (with_services []) (find_subject (id_of x) d.made)) d g
    → IsTurned (id_of x) (option_map (with_services x.services) (find_subject (id_of x) g.made)) g h
    → IsTurned (id_of x) (option_map (with_rules []) (find_subject (id_of x) h.made)) h e
    → OnOk r (IsTurned (id_of x) (option_map (with_rules x.rules) (find_subject (id_of x) e.made)) e f)
    → OnOk r (IsTurned (id_of x) (Some x) p f)
settled {E = E} r x p a b d g h e f there below secrets level cleared lined dropped ruled = by r ruled
  where
    id : SubjectId
    id = id_of x

    with_level : Option Subject → Option Subject
    with_level o = option_map (with_priv x.priv_lvl) (option_map (with_secrets x) (option_map (with_parent x.parent) o))

    with_lines : Option Subject → Option Subject
    with_lines o = option_map (with_services x.services) (option_map (with_services []) o)

    whole : Option Subject → Option Subject
    whole o = option_map (with_rules x.rules) (option_map (with_rules []) (with_lines (with_level o)))

    is_x : (s : Subject) → s.kind ≡ x.kind → s.name ≡ x.name → with_rules x.rules (with_rules [] (with_services x.services (with_services [] (with_priv x.priv_lvl (with_secrets x (with_parent x.parent s)))))) ≡ x
    is_x s kind name = ap (λ (k : Kind). record x { kind = k; name = s.name }) kind ∙ ap (λ (n : List ℕ). record x { name = n }) name

    end : (o : Option Subject) → find_subject id p.made ≡ o → is_some o ≡ true → whole o ≡ Some x
    end None found some = absurd cc
    end (Some s) found some =
        let same : id_of x ≡ id_of s = same_id_is id (id_of s) (found_same id p.made s found) in
        ap Some (is_x s (ap (λ (i : SubjectId). i.kind) (sym same)) (ap (λ (i : SubjectId). i.name) (sym same)))

    last : option_map (with_rules x.rules) (find_subject id e.made) ≡ Some x
    last =
        ap (option_map (with_rules x.rules)) (turned_own id _ h e dropped ∙ ap (option_map (with_rules [])) (turned_own id _ g h lined ∙ ap (option_map (with_services x.services)) (turned_own id _ d g cleared
        ∙ ap (option_map (with_services [])) (turned_own id _ b d level ∙ ap (option_map (with_priv x.priv_lvl)) (turned_own id _ a b secrets
        ∙ ap (option_map (with_secrets x)) (turned_own id _ p a below))))))
        ∙ end (find_subject id p.made) refl there

    until : IsTurned id (option_map (with_rules []) (find_subject id h.made)) p e
    until =
        turned_again id _ _ p h e (turned_again id _ _ p g h (turned_again id _ _ p d g (turned_again id _ _ p b d (turned_again id _ _ p a b below secrets) level) cleared) lined) dropped

    all : IsTurned id (option_map (with_rules x.rules) (find_subject id e.made)) e f → IsTurned id (Some x) p f
    all turned = subst (λ (o : Option Subject). IsTurned id o p f) last (turned_again id _ _ p e f until turned)

    by : (r : Result (Unit {0}) E) → OnOk r (IsTurned id (option_map (with_rules x.rules) (find_subject id e.made)) e f) → OnOk r (IsTurned id (Some x) p f)
    by (Ok done) turned = all turned
    by (Err fault) turned = tt

-- a secret after the other
pub secrets_turned : {E : Type 0} (r : Result (Unit {0}) E) (x : Subject) (p a b : Plan) → x.kind ≡ User
    → IsTurned (user_id x.name) (option_map (with_secret Login x.login) (find_subject (user_id x.name) p.made)) p a
    → OnOk r (IsTurned (user_id x.name) (option_map (with_secret Enable x.enable) (find_subject (user_id x.name) a.made)) a b)
    → OnOk r (IsTurned (id_of x) (option_map (with_secrets x) (find_subject (id_of x) p.made)) p b)
secrets_turned {E = E} r x p a b user login enable = by r enable
  where
    id : SubjectId
    id = user_id x.name

    is : id ≡ id_of x
    is = ap (λ (k : Kind). record { kind = k; name = x.name }) (sym user)

    after : option_map (with_secret Enable x.enable) (find_subject id a.made) ≡ option_map (with_secrets x) (find_subject id p.made)
    after = ap (option_map (with_secret Enable x.enable)) (turned_own id _ p a login) ∙ both_secrets x (find_subject id p.made)

    all : IsTurned id (option_map (with_secret Enable x.enable) (find_subject id a.made)) a b → IsTurned (id_of x) (option_map (with_secrets x) (find_subject (id_of x) p.made)) p b
    all turned =
        subst (λ (i : SubjectId). IsTurned i (option_map (with_secrets x) (find_subject i p.made)) p b) is
        (subst (λ (o : Option Subject). IsTurned id o p b) after (turned_again id _ _ p a b login turned))

    by : (r : Result (Unit {0}) E) → OnOk r (IsTurned id (option_map (with_secret Enable x.enable) (find_subject id a.made)) a b) → OnOk r (IsTurned (id_of x) (option_map (with_secrets x) (find_subject (id_of x) p.made)) p b)
    by (Ok done) turned = all turned
    by (Err fault) turned = tt

-- who isn't a group is a user
pub is_user : (p : List Subject) (x s : Subject) → find_subject (id_of x) p ≡ Some s → same_kind s.kind Group ≡ false → x.kind ≡ User
is_user p x s found apart =
    let same : id_of x ≡ id_of s = same_id_is (id_of x) (id_of s) (found_same (id_of x) p s found) in
    ap (λ (i : SubjectId). i.kind) same ∙ by s.kind apart
  where
    by : (k : Kind) → same_kind k Group ≡ false → k ≡ User
    by Group e = absurd cc
    by User e = refl

-- ---- rules one after another

pub drop_next : (id : SubjectId) (k : ℕ) (p a b : Plan) → IsTurned id (option_map (λ (s : Subject). with_rules (drop k s.rules) s) (find_subject id p.made)) p a
    → IsTurned id (option_map (without_rule_at 0) (find_subject id a.made)) a b → IsTurned id (option_map (λ (s : Subject). with_rules (drop (k + 1) s.rules) s) (find_subject id p.made)) p b
drop_next id k p a b so_far next =
    subst (λ (o : Option Subject). IsTurned id o p b) (ap (option_map (without_rule_at 0)) (turned_own id _ p a so_far) ∙ dropped_next k (find_subject id p.made)) (turned_again id _ _ p a b so_far next)

pub rule_next : (id : SubjectId) (k : ℕ) (rules : List Rule) (rule : Rule) (p a b : Plan) → k < length rules → rule ≡ get_or rules k rule → IsTurned id (option_map (with_rules (take k rules)) (find_subject id p.made)) p a
    → IsTurned id (option_map (with_rule_at k rule) (find_subject id a.made)) a b → IsTurned id (option_map (with_rules (take (k + 1) rules)) (find_subject id p.made)) p b
rule_next id k rules rule p a b lt item so_far next =
    subst (λ (o : Option Subject). IsTurned id o p b) (ap (option_map (with_rule_at k rule)) (turned_own id _ p a so_far) ∙ ruled_next k rules rule (find_subject id p.made) lt item) (turned_again id _ _ p a b so_far next)

-- ---- lines about services one after another

pub clear_next : (id : SubjectId) (k : ℕ) (p a b : Plan) → IsTurned id (option_map (λ (s : Subject). with_services (cleared k s.services) s) (find_subject id p.made)) p a
    → IsTurned id (option_map with_others (find_subject id a.made)) a b → IsTurned id (option_map (λ (s : Subject). with_services (cleared (k + 1) s.services) s) (find_subject id p.made)) p b
clear_next id k p a b so_far next =
    subst (λ (o : Option Subject). IsTurned id o p b) (ap (option_map with_others) (turned_own id _ p a so_far) ∙ cleared_next k (find_subject id p.made)) (turned_again id _ _ p a b so_far next)

pub line_next : (id : SubjectId) (k : ℕ) (lines : List ServiceLine) (line : ServiceLine) (p a b : Plan) → k < length lines → line ≡ get_or lines k line
    → IsTurned id (option_map (with_services (take k lines)) (find_subject id p.made)) p a
    → IsTurned id (option_map (with_line_last line) (find_subject id a.made)) a b → IsTurned id (option_map (with_services (take (k + 1) lines)) (find_subject id p.made)) p b
line_next id k lines line p a b lt item so_far next =
    subst (λ (o : Option Subject). IsTurned id o p b) (ap (option_map (with_line_last line)) (turned_own id _ p a so_far) ∙ lined_next k lines line (find_subject id p.made) lt item) (turned_again id _ _ p a b so_far next)

-- the next of right lines fits after those before it
pub line_fits : (id : SubjectId) (k : ℕ) (lines : List ServiceLine) (line : ServiceLine) (p a : Plan) → k < length lines → line ≡ get_or lines k line → are_right_lines lines ≡ true
    → IsTurned id (option_map (with_services (take k lines)) (find_subject id p.made)) p a
    → (s : Subject) → find_subject id a.made ≡ Some s → are_right_lines (s.services ++ line ∷ []) ≡ true
line_fits id k lines line p a lt item right so_far s found =
    let next : take (suc k) lines ≡ take k lines ++ line ∷ [] = take-suc lines k line lt ∙ ap (λ (l : ServiceLine). take k lines ++ l ∷ []) (sym item) in
    let front : are_right_lines (take (suc k) lines) ≡ true = lines_front (take (suc k) lines) (drop (suc k) lines) (ap are_right_lines (take-append-drop (suc k) lines) ∙ right) in
    let services : s.services ≡ take k lines = by (find_subject id p.made) (sym (turned_own id _ p a so_far) ∙ found) in
    rw services (sym (ap are_right_lines next) ∙ front)
  where
    by : (o : Option Subject) → option_map (with_services (take k lines)) o ≡ Some s → s.services ≡ take k lines
    by None e = absurd cc
    by (Some t) e = let same : with_services (take k lines) t ≡ s = cc in sym (ap (λ (u : Subject). u.services) same)
