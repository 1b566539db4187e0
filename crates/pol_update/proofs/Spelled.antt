-- An edit that a policy takes is spelled by its line.
use Rattle.std.proofs.Common.{◌≡◌, ℕ, ◌+◌, ◌≤◌, ◌&&◌, Bool, true, false, not, cond, nat_le, List, [], ◌++◌, length, codes, Option, Some, None, Result, Ok, Err, ok_or, is_some, refl, sym, subst, arith}
use Rattle.std.specs.Result.{is_ok}
use Rattle.std.specs.Fmt.{decimal}
use Rattle.std.proofs.lemmas.Bool.{and_parts}
use Rattle.std.proofs.lemmas.Bool.Decides.{nat_tests}
use Rattle.basics.specs.Symbol.{is_text}
use Rattle.pol_pattern.specs.Reading.{pattern_of}
use Rattle.pol_pattern.specs.declared.fault.PatternFault.{PatternFault}
use Rattle.sha_crypt.specs.HashText.{HashParts, hash_of}
use Rattle.sha_crypt.proofs.TextFacts.{found as found_hash}
use Rattle.sha_crypt.proofs.SymbolFacts.{hash_is_text}
use Rattle.pol_names.specs.Secret.{is_secret}
use Rattle.pol_names.specs.declared.secret.Credential.TheVariants.{Login, Enable}
use Rattle.pol_names.specs.SubjectId.{subject_text, user_id}
use Rattle.pol_names.specs.Service.{is_service, may_say, is_right_line, any_clash, says_word, attribute_in, attributed_text, allowing}
use Rattle.pol_names.specs.declared.service.Says.{Says}
use Rattle.pol_names.specs.declared.service.Says.TheVariants.{Allows, Refuses}
use Rattle.pol_names.specs.declared.service.ServiceLine.{ServiceLine}
use Rattle.pol_names.proofs.ServiceFacts.{line_symbols}
use Rattle.pol_names.specs.Decision.{verdict_word}
use Rattle.pol_names.specs.declared.decision.Verdict.{Verdict}
use Rattle.pol_names.specs.declared.subject_id.SubjectId.{SubjectId}
use Rattle.pol_text.specs.Policy.{WellFormed, find_subject, is_right_subject}
use Rattle.pol_text.specs.declared.subject.Subject.{Subject}
use Rattle.pol_text.proofs.Keeps.{all_found}
use Rattle.pol_text.proofs.PatternFacts.{pattern_text}
use Rattle.pol_text.proofs.RightSubject.{right_parts}
use Rattle.pol_edit.specs.Applying.{◌>>=◌, applied, present, is_number, pattern_read, set_in, said_in, inserted_in, dropped_in, shifted_in}
use Rattle.pol_edit.specs.Spelling.{Spells, IsName, parent_text}
use Rattle.pol_edit.specs.declared.edit.Edit.{Edit}
use Rattle.pol_edit.specs.declared.edit.Edit.TheVariants.{AddGroup, AddUser, Remove, SetParent, SetLogin, SetEnable, SetHash, SetPriv, AddService, ClearService, InsertRule, RemoveRule, MoveRule}
use Rattle.pol_edit.specs.declared.fault.EditFault.{EditFault}
use Rattle.pol_edit.specs.declared.fault.EditFault.TheVariants as faults
use Rattle.pol_update.specs.Line.{edit_line, HasNames}
use Rattle.pol_update.proofs.Texts.{both, name_text, id_text, below_text, verdict_text, number_text, number_again}

-- ---- what is so of an edit that was taken

after : {A B : Type 0} (r : Result A EditFault) (f : A → Result B EditFault) (y : B) → (r >>= f) ≡ Ok y → (x : A) × (r ≡ Ok x) × (f x ≡ Ok y)
after (Ok x) f y h = (x, refl, h)
after (Err e) f y h = absurd cc

second : {A : Type 0} (b : Bool) (e : EditFault) (y : Result A EditFault) (v : A) → cond b (Err e) y ≡ Ok v → (b ≡ false) × (y ≡ Ok v)
second true e y v h = absurd cc
second false e y v h = (refl, h)

first : {A : Type 0} (b : Bool) (x : Result A EditFault) (e : EditFault) (v : A) → cond b x (Err e) ≡ Ok v → b ≡ true
first true x e v h = refl
first false x e v h = absurd cc

found : (id : SubjectId) (policy : List Subject) (s : Subject) → present id policy ≡ Ok s → find_subject id policy ≡ Some s
found id policy s = by (find_subject id policy)
  where
    by : (o : Option Subject) → ok_or o faults.NoSuch ≡ Ok s → o ≡ Some s
    by None h = absurd cc
    by (Some t) h = cc

few : (id : SubjectId) (policy : List Subject) (s : Subject) → WellFormed policy → present id policy ≡ Ok s → length s.rules ≤ 256
few id policy s w h =
    let right = right_parts s (all_found is_right_subject id policy s w.right (found id policy s h)) in
    let test : nat_le (length s.rules) 256 ≡ true = right.few in
    grind (arith, nat_tests)

below : (at count : ℕ) → is_number at count ≡ true → at ≤ count
below at count h = let parts = and_parts (nat_le 1 at) (nat_le at count) h in let last : nat_le at count ≡ true = parts.1 in grind (arith, nat_tests)

set_right : (policy made : List Subject) (id : SubjectId) (is_right : Bool) (change : Subject → Subject) → set_in policy id is_right change ≡ Ok made → is_right ≡ true
unfolding set_in
set_right policy made id is_right change h =
    let a = after (present id policy) _ made h in
    first is_right _ faults.BadValue made a.2

secret_text : (secret : List ℕ) → is_secret secret ≡ true → is_text secret ≡ true
secret_text secret h = (and_parts _ (is_text secret) h).1

hash_symbols : (text : List ℕ) (read : Option HashParts) → read ≡ hash_of text → is_some read ≡ true → is_text text ≡ true
hash_symbols text None e h = absurd cc
hash_symbols text (Some hash) e h =
    let is = found_hash text (Some hash) e in
    subst (λ (t : List ℕ). is_text t ≡ true) (sym is.1) (hash_is_text hash is.0)

read_ok : (text : List ℕ) (source : List ℕ) → pattern_read (pattern_of text) ≡ Ok source → is_ok (pattern_of text) ≡ true
read_ok text source = by (pattern_of text)
  where
    by : (r : Result (List ℕ) PatternFault) → pattern_read r ≡ Ok source → is_ok r ≡ true
    by (Ok read) h = refl
    by (Err fault) h = absurd cc

not_not : (b : Bool) → not b ≡ false → b ≡ true
not_not true h = refl
not_not false h = absurd cc

inserted : (policy made : List Subject) (id : SubjectId) (at : ℕ) (verdict : Verdict) (text : List ℕ) → WellFormed policy → inserted_in policy id at verdict text ≡ Ok made → (at ≤ 257) × (is_text text ≡ true)
unfolding inserted_in
inserted policy made id at verdict text w h =
    let a = after (present id policy) _ made h in
    let b = second (not (is_number at (length a.0.rules + 1))) faults.BadIndex _ made a.2 in
    let c = after (pattern_read (pattern_of text)) _ made b.1 in
    let less = below at (length a.0.rules + 1) (not_not _ b.0) in
    let most = few id policy a.0 w a.1 in
    (omega arith, pattern_text text (read_ok text c.0 c.1))

dropped : (policy made : List Subject) (id : SubjectId) (at : ℕ) → WellFormed policy → dropped_in policy id at ≡ Ok made → at ≤ 257
unfolding dropped_in
dropped policy made id at w h =
    let a = after (present id policy) _ made h in
    let less = below at (length a.0.rules) (first (is_number at (length a.0.rules)) _ faults.BadIndex made a.2) in
    let most = few id policy a.0 w a.1 in
    omega arith

shifted : (policy made : List Subject) (id : SubjectId) (from to : ℕ) → WellFormed policy → shifted_in policy id from to ≡ Ok made → (from ≤ 257) × (to ≤ 257)
unfolding shifted_in
shifted policy made id from to w h =
    let a = after (present id policy) _ made h in
    let parts = and_parts (is_number from (length a.0.rules)) (is_number to (length a.0.rules)) (first (is_number from (length a.0.rules) && is_number to (length a.0.rules)) _ faults.BadIndex made a.2) in
    let one = below from (length a.0.rules) parts.0 in
    let other = below to (length a.0.rules) parts.1 in
    let most = few id policy a.0 w a.1 in
    (omega arith, omega arith)

said : (policy made : List Subject) (id : SubjectId) (line : ServiceLine) → said_in policy id line ≡ Ok made → is_right_line line ≡ true
unfolding said_in
said policy made id line h =
    let a = after (present id policy) _ made h in
    let b = second (any_clash a.0.services line) faults.Exists _ made a.2 in
    let c = second (not (is_right_line line)) faults.BadValue _ made b.1 in
    not_not _ c.0

-- ---- lines

says_text : (says : Says) → is_text (says_word says) ≡ true
says_text (Allows attribute) = refl
says_text Refuses = refl

served : (word : List ℕ) (id : SubjectId) (text : List ℕ) → is_text word ≡ true → IsName id.name → is_text text ≡ true → is_text (word ++ subject_text id ++ codes " " ++ text) ≡ true
served word id text h name is = both (word ++ subject_text id ++ codes " ") text (both (word ++ subject_text id) (codes " ") (both word (subject_text id) h (id_text id name)) refl) is

numbered : (word : List ℕ) (id : SubjectId) (n : ℕ) → is_text word ≡ true → IsName id.name → n ≤ 257 → is_text (word ++ subject_text id ++ codes " " ++ decimal n) ≡ true
numbered word id n h name small =
    both (word ++ subject_text id ++ codes " ") (decimal n) (both (word ++ subject_text id) (codes " ") (both word (subject_text id) h (id_text id name)) refl) (number_text n (omega arith))

named : (word name : List ℕ) → is_text word ≡ true → IsName name → is_text (word ++ name) ≡ true
named word name h right = both word name h (name_text name right)

texted : (word name text : List ℕ) → is_text word ≡ true → IsName name → is_text text ≡ true → is_text (word ++ name ++ codes " " ++ text) ≡ true
texted word name text h right is = both (word ++ name ++ codes " ") text (both (word ++ name) (codes " ") (named word name h right) refl) is

pub spelled : (policy made : List Subject) (edit : Edit) → HasNames edit → WellFormed policy → applied policy edit ≡ Ok made → Spells (edit_line edit) edit
unfolding applied
spelled policy made (AddGroup name parent) names w h =
    (both (codes "add group " ++ name) (parent_text parent []) (named (codes "add group ") name refl names.0) (below_text parent [] names.1 refl), (refl, names.0, names.1))
spelled policy made (AddUser name parent) names w h =
    (both (codes "add user " ++ name) (parent_text parent []) (named (codes "add user ") name refl names.0) (below_text parent [] names.1 refl), (refl, names.0, names.1))
spelled policy made (Remove subject) names w h = (both (codes "remove ") (subject_text subject) refl (id_text subject names), (refl, names))
spelled policy made (SetParent subject parent) names w h = (
  both (codes "move " ++ subject_text subject) (parent_text parent (codes " out")) (both (codes "move ") (subject_text subject) refl (id_text subject names.0)) (below_text parent (codes " out") names.1 refl),
  (refl, names.0, names.1),
)
spelled policy made (SetLogin user (Some text)) names w h =
    let right = set_right policy made (user_id user) (is_secret text) _ h in
    (texted (codes "login ") user text refl names (secret_text text right), (refl, names))
spelled policy made (SetLogin user None) names w h = (named (codes "clear login ") user refl names, (refl, names))
spelled policy made (SetEnable user (Some text)) names w h =
    let right = set_right policy made (user_id user) (is_secret text) _ h in
    (texted (codes "enable ") user text refl names (secret_text text right), (refl, names))
spelled policy made (SetEnable user None) names w h = (named (codes "clear enable ") user refl names, (refl, names))
spelled policy made (SetHash user Login text) names w h =
    let right = set_right policy made (user_id user) (is_some (hash_of text)) _ h in
    (texted (codes "login-hash ") user text refl names (hash_symbols text (hash_of text) refl right), (refl, names))
spelled policy made (SetHash user Enable text) names w h =
    let right = set_right policy made (user_id user) (is_some (hash_of text)) _ h in
    (texted (codes "enable-hash ") user text refl names (hash_symbols text (hash_of text) refl right), (refl, names))
spelled policy made (SetPriv subject (Some level)) names w h =
    let right : nat_le level 15 ≡ true = set_right policy made subject (nat_le level 15) _ h in
    let small : level ≤ 257 = grind (arith, nat_tests) in
    (numbered (codes "priv ") subject level refl names small, (decimal level, refl, names, number_again level small))
spelled policy made (SetPriv subject None) names w h = (both (codes "clear priv ") (subject_text subject) refl (id_text subject names), (refl, names))
spelled policy made (AddService subject line) names w h =
    let parts = and_parts (is_service line.service) (may_say line.service line.says) (said policy made subject line h) in
    (served (says_word line.says) subject (attributed_text line.service (attribute_in line.says)) (says_text line.says) names (line_symbols line.service line.says parts.0 parts.1), (refl, names, parts.0))
spelled policy made (ClearService subject service attribute) names w h =
    let right = set_right policy made subject (is_right_line (allowing service attribute)) _ h in
    let parts = and_parts (is_service service) (may_say service (Allows attribute)) right in
    (served (codes "clear service ") subject (attributed_text service attribute) refl names (line_symbols service (Allows attribute) parts.0 parts.1), (refl, names, parts.0))
spelled policy made (InsertRule subject at verdict pattern) names w h =
    let taken = inserted policy made subject at verdict pattern w h in
    let front = codes "insert " ++ subject_text subject ++ codes " " ++ decimal at in (
      both (front ++ codes " " ++ verdict_word verdict) pattern
          (both (front ++ codes " ") (verdict_word verdict) (both front (codes " ") (numbered (codes "insert ") subject at refl names taken.0) refl) (verdict_text verdict)) taken.1,
      (decimal at, refl, names, number_again at taken.0),
    )
spelled policy made (RemoveRule subject at) names w h =
    let small = dropped policy made subject at w h in
    (numbered (codes "drop ") subject at refl names small, (decimal at, refl, names, number_again at small))
spelled policy made (MoveRule subject from to) names w h =
    let small = shifted policy made subject from to w h in
    let front = codes "shift " ++ subject_text subject ++ codes " " ++ decimal from in (
      both (front ++ codes " ") (decimal to) (both front (codes " ") (numbered (codes "shift ") subject from refl names small.0) refl) (number_text to (omega arith)),
      (decimal from, decimal to, refl, names, number_again from small.0, number_again to small.1),
    )
