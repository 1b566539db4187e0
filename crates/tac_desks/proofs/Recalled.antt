-- What is remembered stays right.
use Rattle.std.proofs.Common.{◌≡◌, ◌&&◌, Bool, true, List, [], Contains, is_some, Option, None, Some, Result, Ok, Err, OnOk, OnErr, IfSome, ◌⊎◌, inl, inr, sym, ap, subst, ◌∙◌}
use Rattle.std.specs.Map.{lookup}
use Rattle.std.specs.Str.{bytes_eq}
use Rattle.std.proofs.lemmas.Bool.{and_parts}
use Rattle.std.proofs.lemmas.Slice.Eq.{bytes_eq-Decides}
use Rattle.pol_names.specs.declared.decision.Decision.{Decision}
use Rattle.pol_text.specs.declared.subject.Subject.{Subject}
use Rattle.pol_text.specs.Policy.{decide}
use Rattle.lru.specs.LruCache.{LruCache, promoted, put_entries, lru_cache}
use Rattle.lru.proofs.Splits.{Contains-nil}
use Rattle.lru.proofs.CallerLemmas.{Contains-lookup, Contains-promoted, Contains-put_entries}
use Rattle.tac_desks.specs.declared.remembering.Command.{Command}
use Rattle.tac_desks.specs.Remembered.{AreDecisionsBy}

-- the same user, and the same line
pub same_by : (x y : Command) → (bytes_eq x.user y.user && bytes_eq x.line.items y.line.items) ≡ true → (x.user ≡ y.user) × (x.line.items ≡ y.line.items)
same_by x y e =
    let p = and_parts (bytes_eq x.user y.user) (bytes_eq x.line.items y.line.items) e in
    ((bytes_eq-Decides x.user y.user).0 p.0, (bytes_eq-Decides x.line.items y.line.items).0 p.1)

module _ (policy : List Subject) where
  pub none_right : (kept : List (Command × Decision)) → kept ≡ [] → AreDecisionsBy policy kept
  none_right kept is = subst (AreDecisionsBy policy) (sym is) (λ entry h. absurd (Contains-nil entry h))

  pub promoted_right : (test : Command → Bool) (kept : List (Command × Decision)) → AreDecisionsBy policy kept → AreDecisionsBy policy (promoted test kept)
  promoted_right test kept right entry h = right entry (Contains-promoted test kept entry h)

  -- by a test that only commands of the same user and line pass
  module _ (eq : Command → Command → Bool) (law : (x y : Command) → eq x y ≡ true → (x.user ≡ y.user) × (x.line.items ≡ y.line.items)) where
    same_decision : (x y : Command) → eq x y ≡ true → decide policy x.user x.line.items ≡ decide policy y.user y.line.items
    same_decision x y e =
        let p = law x y e in
        ap (λ user. decide policy user x.line.items) p.0 ∙ ap (λ line. decide policy y.user line) p.1

    pub found_right : (kept : List (Command × Decision)) → AreDecisionsBy policy kept → (command : Command) (found : Option Decision) → found ≡ lookup (eq command) kept
        → IfSome found (λ d. decide policy command.user command.line.items ≡ Some d)
    found_right kept right command None is = tt
    found_right kept right command (Some d) is =
        let there = Contains-lookup (eq command) kept d (sym is) in
        same_decision command there.0 there.2 ∙ right (there.0, d) there.1

    key_right : (old : LruCache Command Decision) (command : Command) (entry : Command × Decision)
        → (entry.0 ≡ command) ⊎ ((w : Decision) × Contains old.entries (entry.0, w) × (eq command entry.0 ≡ true))
        → decide policy entry.0.user entry.0.line.items ≡ decide policy command.user command.line.items
    key_right old command entry (inl e) = ap (λ (c : Command). decide policy c.user c.line.items) e
    key_right old command entry (inr w) = sym (same_decision command entry.0 w.2)

    put_right : (old : LruCache Command Decision) (command : Command) (d : Decision) → AreDecisionsBy policy old.entries
        → decide policy command.user command.line.items ≡ Some d → AreDecisionsBy policy (put_entries eq old command d)
    put_right old command d right is entry h = elim (Contains-put_entries eq old command d entry h) [
      | inl was ↦ right entry was
      | inr put ↦ key_right old command entry put.1 ∙ is ∙ ap (λ (x : Decision). Some x) (sym put.0)
    ]

    -- after a put that may have been refused
    pub kept_right : {A E : Type 0} (r : Result A E) (old new : LruCache Command Decision) (command : Command) (d : Decision)
        → OnOk r (new ≡ lru_cache (put_entries eq old command d) old.cap) → OnErr r (new ≡ old)
        → AreDecisionsBy policy old.entries → decide policy command.user command.line.items ≡ Some d → AreDecisionsBy policy new.entries
    kept_right (Ok a) old new command d made err right is =
        subst (λ (c : LruCache Command Decision). AreDecisionsBy policy c.entries) (sym made) (put_right old command d right is)
    kept_right (Err e) old new command d ok err right is =
        subst (λ (c : LruCache Command Decision). AreDecisionsBy policy c.entries) (sym err) right

-- what is remembered is what is wanted
pub known_is : (known wanted : Option Decision) → is_some known ≡ true → IfSome known (λ d. wanted ≡ Some d) → known ≡ wanted
known_is None wanted some is = absurd cc
known_is (Some d) wanted some is = sym is
