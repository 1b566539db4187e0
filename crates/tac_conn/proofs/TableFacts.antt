-- The sessions that are kept: one taken out, one put in.
use Rattle.std.proofs.Common.{◌≡◌, ◌≢◌, ℕ, suc, ◌+◌, ◌<◌, ◌≤◌, Bool, true, false, cond, List, [], ◌∷◌, ◌++◌, length, take, Option, None, Some, refl, sym, ap, subst, ◌∙◌, append-nil, length-append, arith}
use Rattle.std.specs.Prelude.{◌==◌, not, is_some}
use Rattle.std.specs.List.{position_or_len, remove}
use Rattle.std.proofs.lemmas.Bool.{ltb-true, ltb-false, eqb-true, eq-eqb, eqb-false, ne_eqb}
use Rattle.std.proofs.lemmas.List.{take_all, drop_all}
use Rattle.std.proofs.lemmas.List.Edits.{remove-append_left}
use Rattle.tac_conn.specs.declared.session.Session.{Session}
use Rattle.tac_conn.specs.Sessions.{without, with_session, place_in, session_in, settled, HasEachOnce}

-- one for a session that is there
abbrev pub one_if : Bool → ℕ
one_if true = 1
one_if false = 0

abbrev has_id : ℕ → Session → Bool
has_id id session = session.id == id

removed_head : (b : Bool) (x : Session) (xs ys : List Session) (n : ℕ) → remove xs n ≡ ys → remove (x ∷ xs) (cond (not b) (1 + n) 0) ≡ cond b xs (x ∷ ys)
removed_head true x xs ys n e = refl
removed_head false x xs ys n e =
    let s : 1 + n ≡ suc n = omega arith in
    rw s (ap (λ (l : List Session). x ∷ l) e)

-- the first session of an id stands at its position
removed_at : (id : ℕ) (xs : List Session) → remove xs (position_or_len (has_id id) xs) ≡ without id xs
removed_at id [] = refl
removed_at id (x ∷ xs) = removed_head (has_id id x) x xs (without id xs) (position_or_len (has_id id) xs) (removed_at id xs)

found_at : (b : Bool) (i n : ℕ) → Some i ≡ cond b (Some n) None → (i ≡ n) × (b ≡ true)
found_at true i n e = (cc, refl)
found_at false i n e = absurd cc

not_found : (b : Bool) (n : ℕ) → None ≡ cond b (Some n) None → b ≡ false
not_found true n e = absurd cc
not_found false n e = refl

pub remove-position : (id : ℕ) (xs : List Session) (i : ℕ) → Some i ≡ place_in xs id → remove xs i ≡ without id xs
remove-position id xs i e = ap (remove xs) (found_at _ i _ e).0 ∙ removed_at id xs

pub without_absent : (id : ℕ) (xs : List Session) → None ≡ place_in xs id → xs ≡ without id xs
without_absent id xs e =
    let n = position_or_len (has_id id) xs in
    let far : length xs ≤ n = ltb-false _ _ (not_found _ n e) in
    let far_on : length xs ≤ suc n = omega arith in
    sym (ap (λ (l : List Session). take n xs ++ l) (drop_all (suc n) xs far_on) ∙ append-nil (take n xs) ∙ take_all n xs far) ∙ removed_at id xs

pub with_position : (session : Session) (xs : List Session) (i : ℕ) → Some i ≡ place_in xs session.id → remove (xs ++ session ∷ []) i ≡ with_session session xs
with_position session xs i e =
    let f = found_at _ i _ e in
    let below : i < length xs = subst (λ (n : ℕ). n < length xs) (sym f.0) (ltb-true _ _ f.1) in
    remove-append_left xs (session ∷ []) i below ∙ ap (λ (l : List Session). l ++ session ∷ []) (remove-position session.id xs i e)

pub with_absent : (session : Session) (xs : List Session) → None ≡ place_in xs session.id → xs ++ session ∷ [] ≡ with_session session xs
with_absent session xs e = ap (λ (l : List Session). l ++ session ∷ []) (without_absent session.id xs e)

-- ---- look-ups

-- the test of one id fails at a session of another
other_id : (x : Session) (s id : ℕ) → id ≢ s → (x.id == s) ≡ true → (x.id == id) ≡ false
other_id x s id far e =
    let k : x.id ≡ s = eqb-true x.id s e in
    let other : x.id ≢ id = λ h. far (sym h ∙ k) in
    ne_eqb x.id id other

different : (x s : ℕ) → (x == s) ≡ false → x ≢ s
different x s e k = eqb-false x s e k

module _ (s id : ℕ) (far : id ≢ s) where
  other_head : (b : Bool) (x : Session) (xs : List Session) → (x.id == s) ≡ b → session_in (without s xs) id ≡ session_in xs id → session_in (cond b xs (x ∷ without s xs)) id ≡ session_in (x ∷ xs) id
  other_head true x xs e h = rw (other_id x s id far e) refl
  other_head false x xs e h = ap (λ (o : Option Session). cond (x.id == id) (Some x) o) h

  -- the other sessions stay
  pub session_in-without : (xs : List Session) → session_in (without s xs) id ≡ session_in xs id
  session_in-without [] = refl
  session_in-without (x ∷ xs) = other_head (x.id == s) x xs refl (session_in-without xs)

gone_head : (s : ℕ) (b : Bool) (x : Session) (xs : List Session) → (x.id == s) ≡ b → session_in xs x.id ≡ None → session_in (without s xs) s ≡ None → session_in (cond b xs (x ∷ without s xs)) s ≡ None
gone_head s true x xs e h g = subst (λ (i : ℕ). session_in xs i ≡ None) (eqb-true x.id s e) h
gone_head s false x xs e h g = rw e g

-- the session is gone
pub without_gone : (s : ℕ) (xs : List Session) → HasEachOnce xs → session_in (without s xs) s ≡ None
without_gone s [] h = refl
without_gone s (x ∷ xs) h = gone_head s (x.id == s) x xs refl h.0 (without_gone s xs h.1)

once_head : (s : ℕ) (b : Bool) (x : Session) (xs : List Session) → (x.id == s) ≡ b → session_in xs x.id ≡ None → HasEachOnce xs → HasEachOnce (without s xs) → HasEachOnce (cond b xs (x ∷ without s xs))
once_head s true x xs e n h g = h
once_head s false x xs e n h g = (session_in-without s x.id (different x.id s e) xs ∙ n, g)

pub without_once : (s : ℕ) (xs : List Session) → HasEachOnce xs → HasEachOnce (without s xs)
without_once s [] h = tt
without_once s (x ∷ xs) h = once_head s (x.id == s) x xs refl h.0 h.1 (without_once s xs h.1)

shorter_head : (b : Bool) (x : Session) (xs ys : List Session) (o : Option Session) → length ys + one_if (is_some o) ≡ length xs → length (cond b xs (x ∷ ys)) + one_if (is_some (cond b (Some x) o)) ≡ length (x ∷ xs)
shorter_head true x xs ys o h = omega arith
shorter_head false x xs ys o h = omega arith

pub length-without : (s : ℕ) (xs : List Session) → length (without s xs) + one_if (is_some (session_in xs s)) ≡ length xs
length-without s [] = refl
length-without s (x ∷ xs) = shorter_head (x.id == s) x xs (without s xs) (session_in xs s) (length-without s xs)

module _ (y : Session) where
  session_in-push_other : (id : ℕ) (xs : List Session) → id ≢ y.id → session_in (xs ++ y ∷ []) id ≡ session_in xs id
  session_in-push_other id [] far = let other : y.id ≢ id = λ k. far (sym k) in rw (ne_eqb y.id id other) refl
  session_in-push_other id (x ∷ xs) far = ap (λ (o : Option Session). cond (x.id == id) (Some x) o) (session_in-push_other id xs far)

  found_head : (b : Bool) (x : Session) (o p : Option Session) → cond b (Some x) o ≡ None → (o ≡ None → p ≡ Some y) → (b ≡ false) × (cond b (Some x) p ≡ Some y)
  found_head true x o p e h = absurd cc
  found_head false x o p e h = (refl, h e)

  session_in-push_same : (xs : List Session) → session_in xs y.id ≡ None → session_in (xs ++ y ∷ []) y.id ≡ Some y
  session_in-push_same [] e = rw (eq-eqb y.id y.id refl) refl
  session_in-push_same (x ∷ xs) e = (found_head (x.id == y.id) x (session_in xs y.id) (session_in (xs ++ y ∷ []) y.id) e (session_in-push_same xs)).1

  push_once : (xs : List Session) → HasEachOnce xs → session_in xs y.id ≡ None → HasEachOnce (xs ++ y ∷ [])
  push_once [] h e = (refl, tt)
  push_once (x ∷ xs) h e =
      let f = found_head (x.id == y.id) x (session_in xs y.id) (Some y) e (λ k. refl) in
      let rest : session_in xs y.id ≡ None = rw f.0 at e in
      (session_in-push_other x.id xs (different x.id y.id f.0) ∙ h.0, push_once xs h.1 rest)

-- ---- the sessions after a packet

-- a session that is kept has this id
abbrev pub HasId : ℕ → Option Session → Type 0
HasId s None = Unit {0}
HasId s (Some session) = session.id ≡ s

pub settled_other : (s : ℕ) (o : Option Session) (xs : List Session) (id : ℕ) → HasId s o → id ≢ s → session_in (settled s o xs) id ≡ session_in xs id
settled_other s None xs id e far = session_in-without s id far xs
settled_other s (Some y) xs id e far =
    let other : id ≢ y.id = λ k. far (k ∙ e) in
    session_in-push_other y id (without y.id xs) other ∙ session_in-without y.id id other xs

pub settled_same : (s : ℕ) (o : Option Session) (xs : List Session) → HasId s o → HasEachOnce xs → session_in (settled s o xs) s ≡ o
settled_same s None xs e h = without_gone s xs h
settled_same s (Some y) xs e h = subst (λ (i : ℕ). session_in (with_session y xs) i ≡ Some y) e (session_in-push_same y (without y.id xs) (without_gone y.id xs h))

pub settled_once : (s : ℕ) (o : Option Session) (xs : List Session) → HasEachOnce xs → HasEachOnce (settled s o xs)
settled_once s None xs h = without_once s xs h
settled_once s (Some y) xs h = push_once y (without y.id xs) (without_once y.id xs h) (without_gone y.id xs h)

pub length-settled : (s : ℕ) (o : Option Session) (xs : List Session) → HasId s o → length (settled s o xs) + one_if (is_some (session_in xs s)) ≡ length xs + one_if (is_some o)
length-settled s None xs e = let n = length-without s xs in omega arith
length-settled s (Some y) xs e =
    let n = length-without y.id xs in
    let a = length-append (without y.id xs) (y ∷ []) in
    let at_own : length (with_session y xs) + one_if (is_some (session_in xs y.id)) ≡ length xs + 1 = omega arith in
    subst (λ (i : ℕ). length (with_session y xs) + one_if (is_some (session_in xs i)) ≡ length xs + 1) e at_own
