-- A user whom the changes of an edit don't list has no line on which the two policies differ, so
-- that marks stay right.
use Rattle.std.proofs.Common.{◌≡◌, ℕ, Bool, true, false, not, ◌&&◌, cond, is_some, List, [], ◌∷◌, ◌++◌, map, filter, Option, Some, None, refl, sym, ap, subst, ◌∙◌}
use Rattle.std.specs.List.{AllZip}
use Rattle.std.specs.Option.{option_map, option_map_or, option_and_then}
use Rattle.std.specs.Str.{bytes_eq}
use Rattle.std.proofs.lemmas.Bool.{or_parts}
use Rattle.std.proofs.lemmas.List.{map-append}
use Rattle.std.proofs.lemmas.List.Folds.{list_any-append}
use Rattle.std.proofs.lemmas.Slice.Eq.{bytes_eq-Decides}
use Rattle.pol_names.specs.Name.{is_name}
use Rattle.pol_names.specs.SubjectId.{same_kind, user_id}
use Rattle.pol_names.specs.declared.subject_id.Kind.{Kind}
use Rattle.pol_names.specs.declared.subject_id.Kind.TheVariants.{Group, User}
use Rattle.pol_names.specs.declared.decision.Verdict.{Verdict}
use Rattle.pol_names.specs.declared.decision.Verdict.TheVariants.{Permit, Deny}
use Rattle.pol_text.specs.declared.subject.Subject.{Subject}
use Rattle.pol_text.specs.Policy.{find_subject, decision}
use Rattle.pol_meaning.specs.Reach.{IsLeastIfAny}
use Rattle.pol_meaning.specs.LineChanges.{is_permit, permits, IsGained, IsChangeOf, is_change, users_of, is_alone, users_alone, AreLineChanges}
use Rattle.pol_meaning.specs.declared.Changed.{Changed}
use Rattle.tac_request.specs.declared.record.Record.{Record}
use Rattle.tac_tally.specs.Book.{Entry, items}
use Rattle.tac_tally.specs.Recount.{is_denied, is_one_of, remarked, marked}
use Rattle.tac_desks.specs.Metered.{names}
use Rattle.tac_desk.specs.Reporting.{denies_by, denies_to, denies}

none_has : (fact : List ℕ → Type 0) (least : Option (List ℕ)) → IsLeastIfAny fact least → is_some least ≡ false → (line : List ℕ) → ¬ (fact line)
none_has fact None h e = h
none_has fact (Some line) h e = absurd cc

-- ---- who isn't listed

not_first : (user : List ℕ) (first : List ℕ) (rest : List (List ℕ)) → is_one_of (first ∷ rest) user ≡ false → bytes_eq user first ≡ false
not_first user first rest out = (or_parts (bytes_eq user first) (is_one_of rest user) out).0

not_later : (user : List ℕ) (first : List ℕ) (rest : List (List ℕ)) → is_one_of (first ∷ rest) user ≡ false → is_one_of rest user ≡ false
not_later user first rest out = (or_parts (bytes_eq user first) (is_one_of rest user) out).1

module _ {A : Type 0} (name_in : A → List ℕ) (user : List ℕ) (first : A) (rest : List A) where
  -- whether or not the first is listed, the user isn't among the later ones
  later_than : (listed : Bool) → is_one_of (map name_in (cond listed (first ∷ rest) rest)) user ≡ false → is_one_of (map name_in rest) user ≡ false
  later_than true out = not_later user (name_in first) (map name_in rest) out
  later_than false out = out

  -- where the first is listed, the user isn't that one
  differs_first : (listed : Bool) → listed ≡ true → is_one_of (map name_in (cond listed (first ∷ rest) rest)) user ≡ false → bytes_eq user (name_in first) ≡ false
  differs_first true is out = not_first user (name_in first) (map name_in rest) out
  differs_first false is out = absurd cc

absent_step : (kind : Kind) (s : Subject) (name : List ℕ) (rest : List Subject) (own : Bool) → bytes_eq name s.name ≡ own
    → is_one_of (map (λ x. x.name) (cond (same_kind kind User) (s ∷ filter (λ x. same_kind x.kind User) rest) (filter (λ x. same_kind x.kind User) rest))) name ≡ false
    → (is_one_of (users_of rest) name ≡ false → find_subject (user_id name) rest ≡ None)
    → cond (same_kind User kind && own) (Some s) (find_subject (user_id name) rest) ≡ None
absent_step Group s name rest own e out later = later out
absent_step User s name rest true e out later = let other : bytes_eq name s.name ≡ false = not_first name s.name (users_of rest) out in absurd cc
absent_step User s name rest false e out later = later (not_later name s.name (users_of rest) out)

-- who isn't among a policy's users isn't in it
absent : (policy : List Subject) (name : List ℕ) → is_one_of (users_of policy) name ≡ false → find_subject (user_id name) policy ≡ None
absent [] name out = refl
absent (s ∷ rest) name out = absent_step s.kind s name rest (bytes_eq name s.name) refl out (absent rest name)

module _ (other : List Subject) (name : List ℕ) (none : find_subject (user_id name) other ≡ None) where
  alone_so : (kind : Kind) (own : List ℕ) → kind ≡ User → own ≡ name → (same_kind kind User && not (is_some (find_subject (record { kind = kind; name = own }) other))) ≡ true
  alone_so kind own is_user same = rw (is_user, same, none) refl

  gone_step : (kind : Kind) (s : Subject) (rest : List Subject) → s.kind ≡ kind → (own : Bool) → bytes_eq name s.name ≡ own
      → is_one_of (map (λ x. x.name) (cond (is_alone other s) (s ∷ filter (is_alone other) rest) (filter (is_alone other) rest))) name ≡ false
      → (is_one_of (users_alone other rest) name ≡ false → find_subject (user_id name) rest ≡ None)
      → cond (same_kind User kind && own) (Some s) (find_subject (user_id name) rest) ≡ None
  gone_step Group s rest is own e out later = later (later_than (λ x. x.name) name s (filter (is_alone other) rest) (is_alone other s) out)
  gone_step User s rest is false e out later = later (later_than (λ x. x.name) name s (filter (is_alone other) rest) (is_alone other s) out)
  gone_step User s rest is true e out later =
      let same : name ≡ s.name = (bytes_eq-Decides name s.name).0 e in
      let alone : is_alone other s ≡ true = alone_so s.kind s.name is (sym same) in
      let differs = differs_first (λ x. x.name) name s (filter (is_alone other) rest) (is_alone other s) alone out in absurd cc

  -- who isn't in the other policy, nor among the users of this one alone, isn't in this one
  gone : (policy : List Subject) → is_one_of (users_alone other policy) name ≡ false → find_subject (user_id name) policy ≡ None
  gone [] out = refl
  gone (s ∷ rest) out = gone_step s.kind s rest refl (bytes_eq name s.name) refl out (gone rest)

none_permitted : (policy : List Subject) (name line : List ℕ) → find_subject (user_id name) policy ≡ None → permits policy name line ≡ false
none_permitted policy name line none =
    ap (λ (found : Option Subject). option_map_or (λ d. is_permit d.verdict) (option_map (λ user. decision policy user line) found) false) none

denies_permits : (verdict : Verdict) → denies_by verdict ≡ not (is_permit verdict)
denies_permits Permit = refl
denies_permits Deny = refl

denies_found : (policy : List Subject) (line : List ℕ) (found : Option Subject)
    → denies_to policy line found ≡ not (option_map_or (λ d. is_permit d.verdict) (option_map (λ user. decision policy user line) found) false)
denies_found policy line None = refl
denies_found policy line (Some user) = denies_permits (decision policy user line).verdict

module _ (before after : List Subject) where
  same_permits : (user line : List ℕ) → ¬ (IsGained before after user line) → ¬ (IsGained after before user line) → permits before user line ≡ permits after user line
  same_permits user line gains loses = by (permits before user line) (permits after user line) refl refl
    where
      by : (old new : Bool) → permits before user line ≡ old → permits after user line ≡ new → permits before user line ≡ permits after user line
      by true true was is = was ∙ sym is
      by false false was is = was ∙ sym is
      by false true was is = absurd (gains (was, is))
      by true false was is = absurd (loses (is, was))

  unlisted : (user : List ℕ) (changed : Changed) → IsChangeOf before after user changed → is_change changed ≡ false
      → (line : List ℕ) → permits before user line ≡ permits after user line
  unlisted user changed is out line =
      let parts = or_parts (is_some changed.permits) (is_some changed.denies) out in
      same_permits user line
      (none_has (IsGained before after user) changed.permits is.permits_is parts.0 line)
      (none_has (IsGained after before user) changed.denies is.denies_is parts.1 line)

  each_step : (user line first : List ℕ) (c : Changed) (rest : List Changed) → IsChangeOf before after first c → (listed : Bool) → is_change c ≡ listed
      → (own : Bool) → bytes_eq user first ≡ own → is_one_of (names (cond (is_change c) (c ∷ rest) rest)) user ≡ false
      → (own ≡ false → is_one_of (names rest) user ≡ false → permits before user line ≡ permits after user line)
      → permits before user line ≡ permits after user line
  each_step user line first c rest change false is true eq out later =
      subst (λ name. permits before name line ≡ permits after name line) (sym ((bytes_eq-Decides user first).0 eq)) (unlisted first c change is line)
  each_step user line first c rest change true is true eq out later =
      let differs : bytes_eq user c.user ≡ false = differs_first (λ x. x.user) user c rest (is_change c) is out in
      let same : bytes_eq user c.user ≡ true = ap (bytes_eq user) change.user_is ∙ eq in absurd cc
  each_step user line first c rest change listed is false eq out later = later refl (later_than (λ x. x.user) user c rest (is_change c) out)

  -- of users whose changes were worked out, one who isn't listed
  each : (user line : List ℕ) (users : List (List ℕ)) (all : List Changed) → AllZip (IsChangeOf before after) users all → is_one_of users user ≡ true
      → is_one_of (names (filter is_change all)) user ≡ false → permits before user line ≡ permits after user line
  each user line [] all zip among out = absurd cc
  each user line (u ∷ users) [] zip among out = absurd zip
  each user line (u ∷ users) (c ∷ all) zip among out =
      each_step user line u c (filter is_change all) zip.0 (is_change c) refl (bytes_eq user u) refl out
      (λ own others. each user line users all zip.1 (rw own at among) others)

  module _ (changes : List Changed) (are : AreLineChanges before after changes) where
    unchanged : (name line : List ℕ) → is_one_of (names changes) name ≡ false → permits before name line ≡ permits after name line
    unchanged name line out = by (is_one_of users name) refl
      where
        users : List (List ℕ)
        users = users_of after ++ users_alone after before

        by : (among : Bool) → is_one_of users name ≡ among → permits before name line ≡ permits after name line
        by true is = each name line users are.all are.each is (subst (λ l. is_one_of (names l) name ≡ false) are.listed out)
        by false is =
            let parts = or_parts (is_one_of (users_of after) name) (is_one_of (users_alone after before) name)
            (sym (list_any-append (bytes_eq name) (users_of after) (users_alone after before)) ∙ is) in
            let new = absent after name parts.0 in
            none_permitted before name line (gone after name new before parts.1) ∙ sym (none_permitted after name line new)

    unchanged_denies : (name line : List ℕ) → is_one_of (names changes) name ≡ false → denies before name line ≡ denies after name line
    unchanged_denies name line out = by (is_name name)
      where
        to : List Subject → Bool → Bool
        to policy named = denies_to policy line (option_and_then (λ text. find_subject (user_id text) policy) (cond named (Some name) None))

        by : (named : Bool) → to before named ≡ to after named
        by true =
            denies_found before line (find_subject (user_id name) before) ∙ ap not (unchanged name line out)
            ∙ sym (denies_found after line (find_subject (user_id name) after))
        by false = refl

    unchanged_mark : (item : Record) → is_one_of (names changes) item.user ≡ false → is_denied (denies before) item ≡ is_denied (denies after) item
    unchanged_mark item out = by item.line
      where
        by : (line : Option (List ℕ)) → option_map_or (denies before item.user) line false ≡ option_map_or (denies after item.user) line false
        by None = refl
        by (Some line) = unchanged_denies item.user line out

    marks_anew : (records : List Record) → remarked (denies after) (names changes) (marked (denies before) records) ≡ marked (denies after) records
    marks_anew [] = refl
    marks_anew (item ∷ rest) = ap (λ (e : Entry). e ∷ remarked (denies after) (names changes) (marked (denies before) rest)) (one (is_one_of (names changes) item.user) refl)
        ∙ ap (λ l. record { item = item; denied = is_denied (denies after) item } ∷ l) (marks_anew rest)
      where
        one : (b : Bool) → is_one_of (names changes) item.user ≡ b
            → ◌≡◌ {A = Entry} (cond b (record { item = item; denied = is_denied (denies after) item }) (record { item = item; denied = is_denied (denies before) item }))
            (record { item = item; denied = is_denied (denies after) item })
        one true is = refl
        one false is = ap (λ (d : Bool). record { item = item; denied = d }) (unchanged_mark item is)

    -- marks by the old policy, with those of the listed users worked out anew, are by the new one
    pub marks_stay_right : (entries : List Entry) → entries ≡ marked (denies before) (items entries)
        → remarked (denies after) (names changes) entries ≡ marked (denies after) (items entries)
    marks_stay_right entries right = ap (remarked (denies after) (names changes)) right ∙ marks_anew (items entries)

-- one more record with the policy's mark
pub marks_pushed : (denied : List ℕ → List ℕ → Bool) (entries : List Entry) (item : Record) → entries ≡ marked denied (items entries)
    → (entries ++ record { item = item; denied = is_denied denied item } ∷ []) ≡ marked denied (items (entries ++ record { item = item; denied = is_denied denied item } ∷ []))
marks_pushed denied entries item right =
    let last : Entry = record { item = item; denied = is_denied denied item } in
    let records : items (entries ++ last ∷ []) ≡ items entries ++ item ∷ [] = map-append (λ (e : Entry). e.item) entries (last ∷ []) in
    let marks : marked denied (items entries ++ item ∷ []) ≡ marked denied (items entries) ++ last ∷ [] =
    map-append (λ (i : Record). record { item = i; denied = is_denied denied i }) (items entries) (item ∷ []) in
    ap (λ l. l ++ last ∷ []) right ∙ sym (ap (marked denied) records ∙ marks)

-- the same where the entry and the mark are only known to be these
pub marks_pushed_so : (denied : List ℕ → List ℕ → Bool) (entries : List Entry) (item : Record) (mark : Bool) → mark ≡ is_denied denied item → entries ≡ marked denied (items entries)
    → (entries ++ record { item = item; denied = mark } ∷ []) ≡ marked denied (items (entries ++ record { item = item; denied = mark } ∷ []))
marks_pushed_so denied entries item mark is right =
    subst (λ (m : Bool). (entries ++ record { item = item; denied = m } ∷ []) ≡ marked denied (items (entries ++ record { item = item; denied = m } ∷ []))) (sym is) (marks_pushed denied entries item right)
