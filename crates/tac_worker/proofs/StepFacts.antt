-- Steps of one of many connections.
use Rattle.std.proofs.Common.{◌≡◌, ◌⊎◌, inl, inr, ◌+◌, ℕ, zero, suc, List, [], ◌++◌, map, Option, refl, sym, ap, subst, ◌∙◌, append_assoc, append-nil, arith}
use Rattle.std.proofs.lemmas.List.{map-append}
use Rattle.tac_conn.specs.declared.ask.Answer.{Answer}
use Rattle.tac_conn.specs.declared.ask.Ask.{Ask}
use Rattle.tac_worker.specs.declared.due.Due.{Due}
use Rattle.tac_worker.specs.declared.due.Due.TheVariants as next
use Rattle.tac_worker.specs.Linked.{Linked, due_of}
use Rattle.tac_worker.specs.Noting.{answered}
use Rattle.tac_worker.specs.Worked.{Exchange, AreAllMade}
use Rattle.tac_worker.specs.declared.line.Line.{Line}
use Rattle.tac_worker.specs.declared.source.Source.{Source}
use Rattle.tac_worker.specs.Steps.{StepsAt, Goes, woken}
use Rattle.tac_worker.proofs.CallFacts.{all_made_after}

one_more : (n : ℕ) → suc n ≡ n + 1
one_more n = omega arith

module _ {C V S : Type 0} (makes : C → Exchange → C → Type 0) (rests : C → C → Type 0) where
  -- these exchanges were made for it, and are noted
  pub record Grows (was now : Line C V S) (before after : C) : Type 0 where
    pub made : List Exchange
    pub makes_all : AreAllMade makes rests before made after
    pub called : now.link.called ≡ was.link.called ++ map answered made
    pub number : now.number ≡ was.number
    -- it had no turn, or the caller is as its last one left it
    pub caller : ((now.link.caller ≡ was.link.caller) × (after ≡ before)) ⊎ (now.link.caller ≡ after)

  module _ (remaining contents : S → Option (List ℕ)) where
    -- no step was done
    pub goes_first : (line : Line C V S) (source : Source S) (caller : C) → source ≡ (woken line).source → Goes makes rests remaining contents 0 (woken line) (record line { source = source }) caller caller
    unfolding Goes
    goes_first line source caller same = (ap (λ (s : Source S). record line { source = s }) same, refl)

    goes_next : (n : ℕ) (was then now : Line C V S) (before mid after : C) → Goes makes rests remaining contents n was then before mid → StepsAt makes rests remaining contents (due_of then.link) then now mid after
        → Goes makes rests remaining contents (suc n) was now before after
    unfolding Goes
    goes_next n was then now before mid after goes step = (then, mid, goes, step)

    -- one more was
    pub goes_more : (n : ℕ) (was then now : Line C V S) (before mid after : C) → Goes makes rests remaining contents n was then before mid → StepsAt makes rests remaining contents (due_of then.link) then now mid after
        → Goes makes rests remaining contents (n + 1) was now before after
    goes_more n was then now before mid after goes step =
        subst (λ (k : ℕ). Goes makes rests remaining contents k was now before after) (one_more n) (goes_next n was then now before mid after goes step)

  module _ (rests_so : (caller : C) → rests caller caller) where
    -- none was
    pub grows_none : (was now : Line C V S) (before after : C) → now.link.called ≡ was.link.called → now.number ≡ was.number → now.link.caller ≡ was.link.caller → after ≡ before → Grows was now before after
    grows_none was now before after called number caller same = record {
      made = [];
      makes_all = (before, refl, subst (λ (c : C). rests before c) (sym same) (rests_so before));
      called = called ∙ sym (append-nil was.link.called);
      number = number;
      caller = inl (caller, same);
    }

    module _ (remaining contents : S → Option (List ℕ)) where
      abbrev StepsTo : Due → Line C V S → Line C V S → C → C → Type 0
      StepsTo due was now before after = StepsAt makes rests remaining contents due was now before after

      grows_step : (due : Due) (was now : Line C V S) (before after : C) → StepsTo due was now before after → Grows was now before after
      grows_step next.Turn was now before after h = record { made = h.0.made; makes_all = h.0.makes; called = h.0.called; number = ap (λ (l : Line C V S). l.number) h.1; caller = inr h.0.caller }
      grows_step next.Hear was now before after h = grows_none was now before after (ap (λ (l : Linked C V). l.called) h.0.same) h.1 (ap (λ (l : Linked C V). l.caller) h.0.same) h.2
      grows_step next.Send was now before after h = grows_none was now before after (ap (λ (l : Linked C V). l.called) h.0.link) h.1 (ap (λ (l : Linked C V). l.caller) h.0.link) h.2
      grows_step next.Close was now before after h = grows_none was now before after (ap (λ (l : Line C V S). l.link.called) h.0) (ap (λ (l : Line C V S). l.number) h.0) (ap (λ (l : Line C V S). l.link.caller) h.0) h.1

      module _ (on : (was mid now : C) → rests was mid → rests mid now → rests was now)
          (then_makes : (was mid now : C) (exchange : Exchange) → rests was mid → makes mid exchange now → makes was exchange now) where
        left_by : (was then now : Line C V S) (before mid after : C)
            → ((then.link.caller ≡ was.link.caller) × (mid ≡ before)) ⊎ (then.link.caller ≡ mid)
            → ((now.link.caller ≡ then.link.caller) × (after ≡ mid)) ⊎ (now.link.caller ≡ after)
            → ((now.link.caller ≡ was.link.caller) × (after ≡ before)) ⊎ (now.link.caller ≡ after)
        left_by was then now before mid after g (inr h) = inr h
        left_by was then now before mid after (inl g) (inl h) = inl (h.0 ∙ g.0, h.1 ∙ g.1)
        left_by was then now before mid after (inr g) (inl h) = inr (h.0 ∙ g ∙ sym h.1)

        grows_on : (was then now : Line C V S) (before mid after : C) → Grows was then before mid → Grows then now mid after → Grows was now before after
        grows_on was then now before mid after g h = record {
          made = g.made ++ h.made;
          makes_all = all_made_after makes rests on then_makes before g.made mid h.made after g.makes_all h.makes_all;
          called =
              h.called ∙ ap (λ (l : List (Ask × Answer)). l ++ map answered h.made) g.called ∙ append_assoc was.link.called (map answered g.made) (map answered h.made)
              ∙ ap (λ (l : List (Ask × Answer)). was.link.called ++ l) (sym (map-append answered g.made h.made));
          number = h.number ∙ g.number;
          caller = left_by was then now before mid after g.caller h.caller;
        }

        pub grows : (n : ℕ) (was now : Line C V S) (before after : C) → Goes makes rests remaining contents n was now before after → Grows was now before after
        unfolding Goes
        grows zero was now before after h = grows_none was now before after (ap (λ (l : Line C V S). l.link.called) h.0) (ap (λ (l : Line C V S). l.number) h.0) (ap (λ (l : Line C V S). l.link.caller) h.0) h.1
        grows (suc n) was now before after h =
            grows_on was h.0 now before h.1 after (grows n was h.0 before h.1 h.2) (grows_step (due_of h.0.link) h.0 now h.1 after h.3)

  -- to wake it makes no call
  pub grows_woken : (was now : Line C V S) (before after : C) → Grows (woken was) now before after → Grows was now before after
  grows_woken was now before after g = record { made = g.made; makes_all = g.makes_all; called = g.called; number = g.number; caller = g.caller }

  -- ---- what stays

  module _ (remaining contents : S → Option (List ℕ)) where
    -- its door, and its witness at first
    pub record Stays (was now : Line C V S) : Type 0 where
      pub door : now.link.door ≡ was.link.door
      pub first : now.link.first ≡ was.link.first

    stays_step : (due : Due) (was now : Line C V S) (before after : C) → StepsAt makes rests remaining contents due was now before after → Stays was now
    stays_step next.Turn was now before after h = record { door = h.0.door; first = h.0.first }
    stays_step next.Hear was now before after h = record { door = ap (λ (l : Linked C V). l.door) h.0.same; first = ap (λ (l : Linked C V). l.first) h.0.same }
    stays_step next.Send was now before after h = record { door = ap (λ (l : Linked C V). l.door) h.0.link; first = ap (λ (l : Linked C V). l.first) h.0.link }
    stays_step next.Close was now before after h = record { door = ap (λ (l : Line C V S). l.link.door) h.0; first = ap (λ (l : Line C V S). l.link.first) h.0 }

    pub stays : (n : ℕ) (was now : Line C V S) (before after : C) → Goes makes rests remaining contents n was now before after → Stays was now
    unfolding Goes
    stays zero was now before after h = record { door = ap (λ (l : Line C V S). l.link.door) h.0; first = ap (λ (l : Line C V S). l.link.first) h.0 }
    stays (suc n) was now before after h =
        let s = stays n was h.0 before h.1 h.2 in
        let t = stays_step (due_of h.0.link) h.0 now h.1 after h.3 in
        record { door = t.door ∙ s.door; first = t.first ∙ s.first }
