-- What is accounted for a connection, by the exchanges of its number.
use Rattle.std.proofs.Common.{◌≡◌, ℕ, List, [], ◌∷◌, ◌++◌, map, Option, Some, None, refl, sym, ap, subst, ◌∙◌}
use Rattle.tac_conn.specs.declared.ask.Answer.{Answer}
use Rattle.tac_conn.specs.declared.ask.Ask.{Ask}
use Rattle.tac_audit.specs.declared.notice.Notice.{Notice}
use Rattle.tac_hall.specs.declared.fault.HallFault.{HallFault}
use Rattle.tac_worker.specs.declared.end.End.{End}
use Rattle.tac_worker.specs.Linked.{Linked, put, traffic_on, IsOpen, StandsSo}
use Rattle.tac_worker.specs.Noting.{answered}
use Rattle.tac_worker.specs.Served.{served}
use Rattle.tac_worker.specs.Told.{notices, TakesUntil}
use Rattle.tac_worker.specs.Worked.{Exchange, asks_of, answers_of, WritesSome, IsServedBy}
use Rattle.tac_worker.proofs.LinkFacts.{over_by}
use Rattle.tac_worker.specs.declared.line.Line.{Line}
use Rattle.tac_worker.specs.Calls.{Call, calls_of}
use Rattle.tac_worker.specs.Board.{IsAccounted}

asks_noted : (made : List Exchange) → asks_of made ≡ map (λ (call : Ask × Answer). call.0) (map answered made)
asks_noted [] = refl
asks_noted (exchange ∷ made) = ap (λ (l : List Ask). exchange.ask ∷ l) (asks_noted made)

answers_noted : (made : List Exchange) → answers_of made ≡ map (λ (call : Ask × Answer). call.1) (map answered made)
answers_noted [] = refl
answers_noted (exchange ∷ made) = ap (λ (l : List Answer). exchange.answer ∷ l) (answers_noted made)

module _ {C V : Type 0} (refuses : C → Ask → HallFault → Type 0) (takes refuses_notice : V → Notice → V → Type 0) where
  abbrev Opens : Linked C V → Type 0
  Opens link = IsOpen refuses takes refuses_notice link

  -- whoever knows which exchanges were made for it, knows that it is open by these
  pub open_by : (link : Linked C V) (made : List Exchange) → link.called ≡ map answered made → Opens link → (o : Opens link) × (o.made ≡ made)
  open_by link made noted o =
      let same : map answered o.made ≡ map answered made = sym o.called ∙ noted in
      let asks_same : asks_of o.made ≡ asks_of made = asks_noted o.made ∙ ap (map (λ (call : Ask × Answer). call.0)) same ∙ sym (asks_noted made) in
      let answers_same : answers_of o.made ≡ answers_of made = answers_noted o.made ∙ ap (map (λ (call : Ask × Answer). call.1)) same ∙ sym (answers_noted made) in (
        record {
          made = made;
          called = noted;
          left = o.left;
          asked = o.asked ∙ ap (λ (l : List Ask). l ++ o.left) asks_same;
          writes = subst (λ (l : List Answer). WritesSome link.door (served link.door link.heard l) l (Some []) (Some (put link))) answers_same o.writes;
          told = o.told;
          untold = o.untold;
          parts = ap (notices link.door link.heard) (sym answers_same) ∙ o.parts;
          took = o.took;
          replies = o.replies;
        },
        refl,
      )

module _ {C V S : Type 0} (makes : C → Exchange → C → Type 0) (rests : C → C → Type 0) (refuses : C → Ask → HallFault → Type 0) (takes refuses_notice : V → Notice → V → Type 0) (first : C) (calls : List Call) (next : ℕ) (line : Line C V S)
    (a : IsAccounted makes rests refuses takes refuses_notice first calls next line) where
  -- once it has ended, it was served by exactly the calls of its number
  pub served_by_its_own : (end : End) → line.link.end ≡ Some end
      → IsServedBy end line.link.door (λ made. made ≡ calls_of line.number calls) (refuses line.link.caller) (λ told refused. TakesUntil takes refuses_notice line.link.first told refused line.link.witness) (traffic_on line.link)
  served_by_its_own end is =
      over_by refuses takes refuses_notice line.link end (calls_of line.number calls) a.called (subst (λ (e : Option End). StandsSo refuses takes refuses_notice e line.link) is a.stands)

  -- before, it is open by exactly these
  pub open_by_its_own : line.link.end ≡ None → (o : IsOpen refuses takes refuses_notice line.link) × (o.made ≡ calls_of line.number calls)
  open_by_its_own is =
      open_by refuses takes refuses_notice line.link (calls_of line.number calls) a.called (subst (λ (e : Option End). StandsSo refuses takes refuses_notice e line.link) is a.stands)
