-- Many connections, as they come, are served and go.
use Rattle.std.proofs.Common.{◌≡◌, ◌≢◌, ◌⊎◌, inl, inr, Contains, ◌<◌, ◌+◌, ℕ, zero, suc, List, [], ◌∷◌, ◌++◌, map, get_or, set, Option, Some, None, refl, sym, ap, subst, ◌∙◌, arith}
use Rattle.std.specs.Prelude.{All}
use Rattle.std.proofs.lemmas.List.Elements.{All-nil, All-append, All-weaker, All-map, All-push, All-head, All-tail, Contains-append_left, Contains-push}
use Rattle.std.proofs.lemmas.List.{map-append}
use mathlib.Core.Logic.{dite}
use native.Mathlib.Decide.{ℕ_discrete}
use Rattle.tac_wire.specs.declared.door.Door.{Door}
use Rattle.slab.specs.Slab.{Slab}
use Rattle.tac_conn.specs.declared.ask.Answer.{Answer}
use Rattle.tac_conn.specs.declared.ask.Ask.{Ask}
use Rattle.tac_audit.specs.declared.notice.Notice.{Notice}
use Rattle.tac_hall.specs.declared.fault.HallFault.{HallFault}
use Rattle.tac_worker.specs.Linked.{StandsSo}
use Rattle.tac_worker.specs.Noting.{answered}
use Rattle.tac_worker.specs.Worked.{Exchange, AreAllMade}
use Rattle.tac_worker.specs.declared.line.Line.{Line}
use Rattle.tac_worker.specs.declared.stop.Stop.{Stop}
use Rattle.tac_worker.specs.Steps.{woken}
use Rattle.tac_worker.specs.Calls.{Call, exchanges, calls_of, AreCalled, WasAfter}
use Rattle.tac_worker.specs.Board.{Board, idle, at, came as came_next, AreApart, AreAll, Adds, removed_at, ServesOne, ServesAt, IsAccounted, IsWorking}
use Rattle.tac_worker.proofs.CallFacts.{calls_for, own_after, other_after, none_yet, exchanges_after, all_made_after, after_more, after_all, after_turns}
use Rattle.tac_worker.proofs.StepFacts.{Grows, Stays, stays}

abbrev Lines : Type 0 → Type 0 → Type 0 → Type 0
Lines C V S = List (Option (Line C V S))

-- ---- keys

module _ {L : Type 0} where
  pub set_here : (xs : List (Option L)) (key : ℕ) (was : L) (now : Option L) → get_or xs key None ≡ Some was → get_or (set xs key now) key None ≡ now
  set_here [] key was now e = absurd cc
  set_here (x ∷ xs) zero was now e = refl
  set_here (x ∷ xs) (suc key) was now e = set_here xs key was now e

  pub set_else : (xs : List (Option L)) (key other : ℕ) (now : Option L) → other ≢ key → get_or (set xs key now) other None ≡ get_or xs other None
  set_else [] key other now ne = refl
  set_else (x ∷ xs) zero zero now ne = absurd (ne refl)
  set_else (x ∷ xs) zero (suc other) now ne = refl
  set_else (x ∷ xs) (suc key) zero now ne = refl
  set_else (x ∷ xs) (suc key) (suc other) now ne = set_else xs key other now (λ e. ne (ap suc e))

  pub set_same : (xs : List (Option L)) (key : ℕ) (was : L) → get_or xs key None ≡ Some was → set xs key (Some was) ≡ xs
  set_same [] key was e = refl
  set_same (x ∷ xs) zero was e = ap (λ (item : Option L). item ∷ xs) (sym e)
  set_same (x ∷ xs) (suc key) was e = ap (λ (items : List (Option L)). x ∷ items) (set_same xs key was e)

  some_same : (x y : L) → Some x ≡ Some y → x ≡ y
  some_same x y e = cc

module _ {C V S : Type 0} where
  -- ---- lines by key

  -- the others stay as they are
  abbrev OthersStay : Lines C V S → Lines C V S → ℕ → Type 0
  OthersStay lines later key = (other : ℕ) → other ≢ key → at later other ≡ at lines other

  -- what is true of each line, once that of one key has changed
  of_update : (lines later : Lines C V S) (key : ℕ) (now : Line C V S) (P : ℕ → Line C V S → Type 0) → at later key ≡ Some now → OthersStay lines later key
      → P key now → ((k : ℕ) (l : Line C V S) → k ≢ key → at lines k ≡ Some l → P k l) → (k : ℕ) (l : Line C V S) → at later k ≡ Some l → P k l
  of_update lines later key now P here rest mine others k l e =
      dite (ℕ_discrete k key)
      (λ (same : k ≡ key).
      let is : now ≡ l = some_same now l (sym here ∙ (ap (at later) (sym same) ∙ e)) in
      subst (λ (y : ℕ × Line C V S). P y.0 y.1) (λ i. (sym same i, is i)) mine)
      (λ ne. others k l ne (sym (rest k ne) ∙ e))

  -- the line of one key is gone
  of_rest : (lines later : Lines C V S) (key : ℕ) → at later key ≡ None → OthersStay lines later key → (k : ℕ) (l : Line C V S) → at later k ≡ Some l → (k ≢ key) × (at lines k ≡ Some l)
  of_rest lines later key none rest k l e = let ne : k ≢ key = λ same. absurd (cc (none, e, ap (at later) same)) in (ne, sym (rest k ne) ∙ e)

  -- more room changes no line
  pub kept_slots : (slab later : Slab (Line C V S)) → later ≡ record slab { capacity = later.capacity } → later.slots ≡ slab.slots
  kept_slots slab later same = ap (λ (s : Slab (Line C V S)). s.slots) same

  pub vacant_kept : (lines kept : Lines C V S) (key : ℕ) → kept ≡ lines → at kept key ≡ None → at lines key ≡ None
  vacant_kept lines kept key same none = subst (λ (l : Lines C V S). at l key ≡ None) same none

  pub others_kept : (lines kept later : Lines C V S) (key : ℕ) → kept ≡ lines → OthersStay kept later key → OthersStay lines later key
  others_kept lines kept later key same rest = subst (λ (l : Lines C V S). OthersStay l later key) same rest

  -- ---- numbers that are known

  abbrev Known : Lines C V S → List (Line C V S) → ℕ → Type 0
  Known lines over number = ((key : ℕ) × (line : Line C V S) × (at lines key ≡ Some line) × (line.number ≡ number)) ⊎ Contains (map (λ (line : Line C V S). line.number) over) number

  abbrev numbers : List (Line C V S) → List ℕ
  numbers lines = map (λ (line : Line C V S). line.number) lines

  known_on : (lines later : Lines C V S) (key : ℕ) (over : List (Line C V S)) (line now : Line C V S) → at lines key ≡ Some line → now.number ≡ line.number → at later key ≡ Some now → OthersStay lines later key
      → (n : ℕ) → Known lines over n → Known later over n
  known_on lines later key over line now is same here rest n (inr there) = inr there
  known_on lines later key over line now is same here rest n (inl live) =
      dite (ℕ_discrete live.0 key)
      (λ (k : live.0 ≡ key).
      let one : line ≡ live.1 = some_same line live.1 (sym is ∙ (ap (at lines) (sym k) ∙ live.2)) in
      inl (key, now, here, same ∙ ap (λ (l : Line C V S). l.number) one ∙ live.3))
      (λ ne. inl (live.0, live.1, rest live.0 ne ∙ live.2, live.3))

  known_over : (lines later : Lines C V S) (key : ℕ) (over : List (Line C V S)) (line : Line C V S) → at lines key ≡ Some line → OthersStay lines later key
      → (n : ℕ) → Known lines over n → Known later (over ++ line ∷ []) n
  known_over lines later key over line is rest n (inr there) =
      inr (subst (λ (l : List ℕ). Contains l n) (sym (map-append (λ (l : Line C V S). l.number) over (line ∷ []))) (Contains-append_left (numbers over) (line.number ∷ []) n there))
  known_over lines later key over line is rest n (inl live) =
      dite (ℕ_discrete live.0 key)
      (λ (k : live.0 ≡ key).
      let one : line ≡ live.1 = some_same line live.1 (sym is ∙ (ap (at lines) (sym k) ∙ live.2)) in
      let number : line.number ≡ n = ap (λ (l : Line C V S). l.number) one ∙ live.3 in
      inr (subst (λ (l : List ℕ). Contains l n) (sym (map-append (λ (l : Line C V S). l.number) over (line ∷ [])))
      (subst (λ (k : ℕ). Contains (numbers over ++ line.number ∷ []) k) number (Contains-push (numbers over) line.number))))
      (λ ne. inl (live.0, live.1, rest live.0 ne ∙ live.2, live.3))

  known_more : (lines later : Lines C V S) (next key : ℕ) (over : List (Line C V S)) (line : Line C V S) → line.number ≡ next → at lines key ≡ None → at later key ≡ Some line → OthersStay lines later key
      → ((n : ℕ) → n < next → Known lines over n) → (n : ℕ) → n < next + 1 → Known later over n
  known_more lines later next key over line is none here rest h n low =
      dite (ℕ_discrete n next)
      (λ (last : n ≡ next). inl (key, line, here, is ∙ sym last))
      (λ ne. goes (h n (omega (arith, low, ne))))
    where
      goes : Known lines over n → Known later over n
      goes (inr there) = inr there
      goes (inl live) =
          let apart : live.0 ≢ key = λ same. absurd (cc (none, live.2, ap (at lines) same)) in
          inl (live.0, live.1, rest live.0 apart ∙ live.2, live.3)

  -- ---- numbers that are apart

  apart_push : (lines : List (Line C V S)) (line : Line C V S) → AreApart lines → All (λ other. line.number ≢ other.number) lines → AreApart (lines ++ line ∷ [])
  apart_push [] line a h = (All-nil _, tt)
  apart_push (x ∷ lines) line a h = (
    All-push (λ (other : Line C V S). other.number ≢ x.number) lines line a.0 (All-head (λ (other : Line C V S). line.number ≢ other.number) x lines h),
    apart_push lines line a.1 (All-tail (λ (other : Line C V S). line.number ≢ other.number) x lines h),
  )

-- ---- a board

module _ {C V S : Type 0} (makes : C → Exchange → C → Type 0) (rests : C → C → Type 0) (refuses : C → Ask → HallFault → Type 0) (takes refuses_notice : V → Notice → V → Type 0) where
  abbrev Working : Board C V S → Type 0
  Working board = IsWorking makes rests refuses takes refuses_notice board

  abbrev Accounted : C → List Call → ℕ → Line C V S → Type 0
  Accounted first calls next line = IsAccounted makes rests refuses takes refuses_notice first calls next line

  abbrev Stands : Line C V S → Type 0
  Stands line = StandsSo refuses takes refuses_notice line.link.end line.link

  -- without a connection
  pub begins : (rests_so : (caller : C) → rests caller caller) (caller : C) → Working (idle caller)
  begins rests_so caller = record {
    calls = [];
    made = (caller, refl, rests_so caller);
    given = All-nil _;
    served = λ key line e. absurd cc;
    over = All-nil _;
    known = λ n low. absurd (omega arith);
    apart = λ one two line other e f n. absurd cc;
    gone = All-nil _;
    removed_apart = tt;
  }

  -- more calls came, for another connection
  accounted_still : (first : C) (calls : List Call) (next n : ℕ) (made : List Exchange) (line : Line C V S) → n ≢ line.number → Accounted first calls next line → Accounted first (calls ++ calls_for n made) next line
  accounted_still first calls next n made line ne a = record {
    called = a.called ∙ ap (map answered) (sym (other_after n line.number calls made ne));
    numbered = a.numbered;
    caller = after_more makes rests first calls (calls_for n made) line.link.caller a.caller;
    stands = a.stands;
  }

  accounted_more : (first : C) (calls : List Call) (next : ℕ) (line : Line C V S) → Accounted first calls next line → Accounted first calls (next + 1) line
  accounted_more first calls next line a = record { called = a.called; numbered = let b : line.number < next = a.numbered in omega arith; caller = a.caller; stands = a.stands }

  -- one had turns
  pub turned : (board : Board C V S) (later : List (Option (Line C V S))) (key : ℕ) (line now : Line C V S) (after : C)
      (on : (was mid now : C) → rests was mid → rests mid now → rests was now) (then_makes : (was mid now : C) (exchange : Exchange) → rests was mid → makes mid exchange now → makes was exchange now)
      → Working board → at board.lines key ≡ Some line → Grows makes rests line now board.caller after → Stands now → at later key ≡ Some now → ((other : ℕ) → other ≢ key → at later other ≡ at board.lines other)
      → Working (record board { caller = after; lines = later })
  turned board later key line now after on then_makes h is g stands here rest =
      let lines = board.lines in
      let next = board.next in
      let n : ℕ = line.number in
      let calls = h.calls in
      let mine = h.served key line is in
      let apart : (k : ℕ) (l : Line C V S) → k ≢ key → at lines k ≡ Some l → n ≢ l.number = λ k l ne e same. ne (h.apart k key l line e is (sym same)) in
      let made : AreCalled makes rests board.first (calls ++ calls_for n g.made) after =
      subst (λ (l : List Exchange). AreAllMade makes rests board.first l after) (sym (exchanges_after n calls g.made)) (all_made_after makes rests on then_makes board.first (exchanges calls) board.caller g.made after h.made g.makes_all) in
      record {
        calls = calls ++ calls_for n g.made;
        made = made;
        given = All-append (λ (call : Call). call.number < next) calls (calls_for n g.made) h.given
            (All-map (λ (call : Call). call.number < next) (λ (e : Exchange). record { number = n; exchange = e }) g.made (λ k d l. mine.numbered));
        served = of_update lines later key now (λ k l. Accounted board.first (calls ++ calls_for n g.made) next l) here rest
            (record {
              called =
                  g.called ∙ ap (λ (l : List (Ask × Answer)). l ++ map answered g.made) mine.called ∙ sym (map_append answered (calls_of n calls) g.made)
                  ∙ ap (map answered) (sym (own_after n calls g.made) ∙ ap (λ (k : ℕ). calls_of k (calls ++ calls_for n g.made)) (sym g.number));
              numbered = subst (λ (k : ℕ). k < next) (sym g.number) mine.numbered;
              caller = after_turns makes rests board.first calls (calls_for n g.made) line.link.caller now.link.caller board.caller after mine.caller made g.caller;
              stands = stands;
            })
            (λ k l ne e. accounted_still board.first calls next n g.made l (apart k l ne e) (h.served k l e));
        over = λ k d l. accounted_still board.first calls next n g.made _ (h.gone k d l key line is) (h.over k d l);
        known = λ m low. known_on lines later key board.over line now is g.number here rest m (h.known m low);
        apart = λ one two x y e f. of_update lines later key now (λ i u. (j : ℕ) (v : Line C V S) → at later j ≡ Some v → u.number ≡ v.number → i ≡ j) here rest
            (of_update lines later key now (λ j v. now.number ≡ v.number → key ≡ j) here rest
            (λ _. refl)
            (λ j v ne e s. absurd (apart j v ne e (sym g.number ∙ s))))
            (λ i u ne e. of_update lines later key now (λ j v. u.number ≡ v.number → i ≡ j) here rest
            (λ s. absurd (apart i u ne e (sym (s ∙ g.number))))
            (λ j v ne' e'. h.apart i j u v e e'))
            one x e two y f;
        gone = λ k d l. of_update lines later key now (λ i u. u.number ≢ _) here rest
            (λ s. h.gone k d l key line is (sym g.number ∙ s))
            (λ i u ne e. h.gone k d l i u e);
        removed_apart = h.removed_apart;
      }
    where
      map_append : (f : Exchange → Ask × Answer) (xs ys : List Exchange) → map f (xs ++ ys) ≡ map f xs ++ map f ys
      map_append f xs ys = map-append f xs ys

  -- one was removed
  pub closed : (board : Board C V S) (later : List (Option (Line C V S))) (vacant key : ℕ) (line : Line C V S) → Working board → at board.lines key ≡ Some line
      → at later key ≡ None → ((other : ℕ) → other ≢ key → at later other ≡ at board.lines other) → Working (record board { lines = later; vacant = vacant; over = board.over ++ line ∷ [] })
  closed board later vacant key line h is none rest =
      let left = of_rest board.lines later key none rest in
      record {
        calls = h.calls;
        made = h.made;
        given = h.given;
        served = λ k l e. h.served k l (left k l e).1;
        over = All-push (λ (l : Line C V S). Accounted board.first h.calls board.next l) board.over line h.over (h.served key line is);
        known = λ m low. known_over board.lines later key board.over line is rest m (h.known m low);
        apart = λ one two x y e f. h.apart one two x y (left one x e).1 (left two y f).1;
        gone = All-push (λ (l : Line C V S). (k : ℕ) (o : Line C V S) → at later k ≡ Some o → o.number ≢ l.number) board.over line
            (λ k d l i u e. h.gone k d l i u (left i u e).1)
            (λ k l e same. (left k l e).0 (h.apart k key l line (left k l e).1 is same));
        removed_apart = apart_push board.over line h.removed_apart (λ k d l. h.gone k d l key line is);
      }

  -- one came
  pub came : (board : Board C V S) (later : List (Option (Line C V S))) (vacant key : ℕ) (door : Door) (witness : V) (socket : S) (line : Line C V S) → Working board → line ≡ came_next door witness socket board → Stands line
      → at board.lines key ≡ None → at later key ≡ Some line → ((other : ℕ) → other ≢ key → at later other ≡ at board.lines other) → Working (record board { lines = later; vacant = vacant; next = board.next + 1 })
  came board later vacant key door witness socket line h is stands none here rest =
      let lines = board.lines in
      let next = board.next in
      let n : line.number ≡ next = ap (λ (l : Line C V S). l.number) is in
      let called : line.link.called ≡ [] = ap (λ (l : Line C V S). l.link.called) is in
      record {
        calls = h.calls;
        made = h.made;
        given = All-weaker (λ (call : Call). call.number < next) (λ (call : Call). call.number < next + 1) (λ x p. omega arith) h.calls h.given;
        served = of_update lines later key line (λ k l. Accounted board.first h.calls (next + 1) l) here rest
            (record {
              called = called ∙ ap (map answered) (sym (none_yet next h.calls h.given) ∙ ap (λ (k : ℕ). calls_of k h.calls) (sym n));
              numbered = omega (arith, n);
              caller = subst (λ (c : C). WasAfter makes rests board.first h.calls c) (sym (ap (λ (l : Line C V S). l.link.caller) is)) (after_all makes rests board.first h.calls board.caller h.made);
              stands = stands;
            })
            (λ k l ne e. accounted_more board.first h.calls next l (h.served k l e));
        over = λ k d l. accounted_more board.first h.calls next _ (h.over k d l);
        known = λ m low. known_more lines later next key board.over line n none here rest h.known m low;
        apart = λ one two x y e f. of_update lines later key line (λ i u. (j : ℕ) (v : Line C V S) → at later j ≡ Some v → u.number ≡ v.number → i ≡ j) here rest
            (of_update lines later key line (λ j v. line.number ≡ v.number → key ≡ j) here rest
            (λ _. refl)
            (λ j v ne e s. let b : v.number < next = (h.served j v e).numbered in absurd (omega arith)))
            (λ i u ne e. of_update lines later key line (λ j v. u.number ≡ v.number → i ≡ j) here rest
            (λ s. let b : u.number < next = (h.served i u e).numbered in absurd (omega arith))
            (λ j v ne' e'. h.apart i j u v e e'))
            one x e two y f;
        gone = λ k d l. of_update lines later key line (λ i u. u.number ≢ _) here rest
            (λ s. let b = (h.over k d l).numbered in absurd (omega (arith, b, s, n)))
            (λ i u ne e. h.gone k d l i u e);
        removed_apart = h.removed_apart;
      }

-- ---- some turns

-- of the connection that has this key
pub served_at : {C V S : Type 0} (makes : C → Exchange → C → Type 0) (rests : C → C → Type 0) (remaining contents : S → Option (List ℕ)) (slot : Option (Line C V S)) (turns key : ℕ) (line : Line C V S) (stop : Stop)
    (was now : Board C V S) → slot ≡ Some line → ServesOne makes rests remaining contents turns key line stop was now → ServesAt makes rests remaining contents slot turns key stop was now
served_at {C} {V} {S} makes rests remaining contents slot turns key line stop was now is h =
    subst (λ (s : Option (Line C V S)). ServesAt makes rests remaining contents s turns key stop was now) (sym is) h

-- ---- what is true of each connection, whoever calls

module _ {C V S : Type 0} (is : Line C V S → Type 0) where
  pub all_idle : (caller : C) → AreAll is (idle caller)
  all_idle caller = (λ key line e. absurd cc, All-nil _)

  -- one more is so
  pub all_added : (line : Line C V S) (key : ℕ) (was now : Board C V S) → Adds line key was now → is line → AreAll is was → AreAll is now
  all_added line key was now a mine h = (
    of_update was.lines now.lines key line (λ k l. is l) a.here a.others mine (λ k l ne e. h.0 k l e),
    subst (All is) (sym (ap (λ (b : Board C V S). b.over) a.rest)) h.1,
  )

  pub all_removed : (slot : Option (Line C V S)) (key : ℕ) (board : Board C V S) → slot ≡ at board.lines key → AreAll is board → AreAll is (removed_at slot key board)
  all_removed None key board there h = h
  all_removed (Some line) key board there h = (
    λ k l e. h.0 k l (of_rest board.lines (set board.lines key None) key (set_here board.lines key line None (sym there)) (λ other ne. set_else board.lines key other None ne) k l e).1,
    All-push is board.over line h.1 (h.0 key line (sym there)),
  )

  module _ (makes : C → Exchange → C → Type 0) (rests : C → C → Type 0) (remaining contents : S → Option (List ℕ)) where
    -- what is true by the key and the first witness stays true
    pub all_served : ((line then : Line C V S) → Stays makes rests remaining contents line then → is line → is then) → (slot : Option (Line C V S)) (turns key : ℕ) (stop : Stop) (was now : Board C V S) → slot ≡ at was.lines key
        → ServesAt makes rests remaining contents slot turns key stop was now → AreAll is was → AreAll is now
    all_served keep None turns key stop was now there s h = subst (AreAll is) (sym s.1) h
    all_served keep (Some line) turns key stop was now there s h =
        let then = s.then in
        let stays_so = stays makes rests remaining contents s.goes.steps (woken line) then was.caller now.caller s.goes.goes in
        let mine = keep line then (record { door = stays_so.door; first = stays_so.first }) (h.0 key line (sym there)) in
        subst (AreAll is) (sym s.rest) (
          of_update was.lines (set was.lines key (Some then)) key then (λ k l. is l) (set_here was.lines key line (Some then) (sym there)) (λ other ne. set_else was.lines key other (Some then) ne) mine (λ k l ne e. h.0 k l e),
          h.1,
        )
