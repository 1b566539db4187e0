-- Calls by the numbers of their connections.
use Rattle.std.proofs.Common.{◌≡◌, ◌≢◌, ◌⊎◌, inl, inr, ◌==◌, ◌<◌, ℕ, List, [], ◌∷◌, ◌++◌, map, Bool, true, false, if◌then◌else◌, refl, sym, ap, subst, ◌∙◌, arith, append_assoc, append-nil}
use Rattle.std.specs.Prelude.{All}
use Rattle.std.proofs.lemmas.Bool.Decides.{nat_tests}
use Rattle.std.proofs.lemmas.List.Elements.{All-head, All-tail}
use Rattle.std.proofs.lemmas.List.{map-append}
use Rattle.tac_worker.specs.Worked.{Exchange, AreMade, AreAllMade}
use Rattle.tac_worker.specs.Calls.{Call, exchanges, calls_of, AreCalled, WasAfter}

-- these, made for this connection
abbrev pub calls_for : ℕ → List Exchange → List Call
calls_for number made = map (λ exchange. record { number = number; exchange = exchange }) made

-- ---- by number

pick : (b : Bool) (e : Exchange) (l m r : List Exchange) → l ≡ m ++ r → (if b then e ∷ l else l) ≡ (if b then e ∷ m else m) ++ r
pick true e l m r h = ap (λ (x : List Exchange). e ∷ x) h
pick false e l m r h = h

of_append : (k : ℕ) (xs ys : List Call) → calls_of k (xs ++ ys) ≡ calls_of k xs ++ calls_of k ys
of_append k [] ys = refl
of_append k (c ∷ xs) ys = pick (c.number == k) c.exchange (calls_of k (xs ++ ys)) (calls_of k xs) (calls_of k ys) (of_append k xs ys)

taken : (b : Bool) (e : Exchange) (l m : List Exchange) → b ≡ true → l ≡ m → (if b then e ∷ l else l) ≡ e ∷ m
taken true e l m h s = ap (λ (x : List Exchange). e ∷ x) s
taken false e l m h s = absurd cc

passed : (b : Bool) (e : Exchange) (l m : List Exchange) → b ≡ false → l ≡ m → (if b then e ∷ l else l) ≡ m
passed true e l m h s = absurd cc
passed false e l m h s = s

self_test : (k : ℕ) → (k == k) ≡ true
self_test k = grind (arith, nat_tests)

other_test : (n k : ℕ) → n ≢ k → (n == k) ≡ false
other_test n k ne = grind (arith, nat_tests)

of_own : (k : ℕ) (made : List Exchange) → calls_of k (calls_for k made) ≡ made
of_own k [] = refl
of_own k (e ∷ made) = taken (k == k) e (calls_of k (calls_for k made)) made (self_test k) (of_own k made)

of_other : (n k : ℕ) (made : List Exchange) → n ≢ k → calls_of k (calls_for n made) ≡ []
of_other n k [] ne = refl
of_other n k (e ∷ made) ne = passed (n == k) e (calls_of k (calls_for n made)) [] (other_test n k ne) (of_other n k made ne)

pub own_after : (k : ℕ) (calls : List Call) (made : List Exchange) → calls_of k (calls ++ calls_for k made) ≡ calls_of k calls ++ made
own_after k calls made = of_append k calls (calls_for k made) ∙ ap (λ (l : List Exchange). calls_of k calls ++ l) (of_own k made)

pub other_after : (n k : ℕ) (calls : List Call) (made : List Exchange) → n ≢ k → calls_of k (calls ++ calls_for n made) ≡ calls_of k calls
other_after n k calls made ne =
    of_append k calls (calls_for n made) ∙ ap (λ (l : List Exchange). calls_of k calls ++ l) (of_other n k made ne) ∙ append-nil (calls_of k calls)

-- none is of a number that wasn't given yet
pub none_yet : (next : ℕ) (calls : List Call) → All (λ call. call.number < next) calls → calls_of next calls ≡ []
none_yet next [] h = refl
none_yet next (c ∷ calls) h =
    let l : c.number < next = All-head (λ (call : Call). call.number < next) c calls h in
    passed (c.number == next) c.exchange (calls_of next calls) [] (other_test c.number next (λ e. omega arith)) (none_yet next calls (All-tail (λ (call : Call). call.number < next) c calls h))

-- ---- without their numbers

exchanges_for : (n : ℕ) (made : List Exchange) → exchanges (calls_for n made) ≡ made
exchanges_for n [] = refl
exchanges_for n (e ∷ made) = ap (λ (l : List Exchange). e ∷ l) (exchanges_for n made)

pub exchanges_after : (n : ℕ) (calls : List Call) (made : List Exchange) → exchanges (calls ++ calls_for n made) ≡ exchanges calls ++ made
exchanges_after n calls made = map-append (λ (c : Call). c.exchange) calls (calls_for n made) ∙ ap (λ (l : List Exchange). exchanges calls ++ l) (exchanges_for n made)

-- ---- one after another

module _ {C : Type 0} (makes : C → Exchange → C → Type 0) (rests : C → C → Type 0)
    (on : (was mid now : C) → rests was mid → rests mid now → rests was now)
    (after : (was mid now : C) (exchange : Exchange) → rests was mid → makes mid exchange now → makes was exchange now) where
  -- a rest before them doesn't count
  rested : (was mid : C) (made : List Exchange) (now : C) → rests was mid → AreAllMade makes rests mid made now → AreAllMade makes rests was made now
  rested was mid [] now r m = (was, refl, on was mid now r (subst (λ (c : C). rests c now) m.1 m.2))
  rested was mid (e ∷ made) now r m = (m.0, (m.1.0, after was mid m.1.0 e r m.1.1, m.1.2), m.2)

  then_made : (was : C) (xs : List Exchange) (mid : C) (ys : List Exchange) (now : C) → AreMade makes was xs mid → AreAllMade makes rests mid ys now → AreAllMade makes rests was (xs ++ ys) now
  then_made was [] mid ys now m h = subst (λ (c : C). AreAllMade makes rests c ys now) m h
  then_made was (e ∷ xs) mid ys now m h = let r = then_made m.0 xs mid ys now m.2 h in (r.0, (m.0, m.1, r.1), r.2)

  pub all_made_after : (was : C) (xs : List Exchange) (mid : C) (ys : List Exchange) (now : C) → AreAllMade makes rests was xs mid → AreAllMade makes rests mid ys now
      → AreAllMade makes rests was (xs ++ ys) now
  all_made_after was xs mid ys now m h = then_made was xs m.0 ys now m.1 (rested m.0 mid ys now m.2 h)

module _ {C : Type 0} (makes : C → Exchange → C → Type 0) (rests : C → C → Type 0) where
  -- ---- who it was

  -- more calls came
  pub after_more : (first : C) (calls more : List Call) (who : C) → WasAfter makes rests first calls who → WasAfter makes rests first (calls ++ more) who
  after_more first calls more who a = record {
    before = a.before;
    later = a.later ++ more;
    parts = ap (λ (l : List Call). l ++ more) a.parts ∙ append_assoc a.before a.later more;
    made = a.made;
  }

  -- after all of them
  pub after_all : (first : C) (calls : List Call) (who : C) → AreCalled makes rests first calls who → WasAfter makes rests first calls who
  after_all first calls who made = record { before = calls; later = []; parts = sym (append-nil calls); made = made }

  -- as a turn left it, or as it was before
  pub after_turns : (first : C) (calls more : List Call) (was now before after : C) → WasAfter makes rests first calls was → AreCalled makes rests first (calls ++ more) after
      → ((now ≡ was) × (after ≡ before)) ⊎ (now ≡ after) → WasAfter makes rests first (calls ++ more) now
  after_turns first calls more was now before after a made (inl same) = subst (λ (c : C). WasAfter makes rests first (calls ++ more) c) (sym same.0) (after_more first calls more was a)
  after_turns first calls more was now before after a made (inr same) = subst (λ (c : C). WasAfter makes rests first (calls ++ more) c) (sym same) (after_all first (calls ++ more) after made)
