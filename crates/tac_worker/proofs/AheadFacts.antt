-- A link whose next turn may have been found.
use Rattle.std.proofs.Common.{◌≡◌, ◌∷◌, [], ◌++◌, map, take, drop, false, List, Option, Some, None, Result, Ok, Err, refl, sym, ap, subst, ◌∙◌, append-nil, true≢false, if◌then◌else◌}
use Rattle.std.proofs.lemmas.List.{take-append-drop}
use Rattle.std.specs.declared.alloc.AllocError.{AllocError}
use Rattle.tac_wire.specs.declared.frame.Frame.{Frame}
use Rattle.tac_wire.specs.Stream.{cut}
use Rattle.tac_conn.specs.declared.ask.Answer.{Answer}
use Rattle.tac_conn.specs.declared.ask.Ask.{Ask}
use Rattle.tac_conn.specs.declared.packet.Packet.{Packet}
use Rattle.tac_conn.specs.declared.step.Step.TheVariants as steps
use Rattle.tac_conn.specs.Packet.{clear}
use Rattle.tac_audit.specs.declared.notice.Notice.{Notice}
use Rattle.tac_hall.specs.declared.fault.HallFault.{HallFault}
use Rattle.tac_stream.specs.declared.stream.Stream.{Stream}
use Rattle.tac_stream.specs.declared.turn.Turn.{Turn}
use Rattle.tac_stream.specs.declared.turn.Turn.TheVariants as turns
use Rattle.tac_stream.specs.Turns.{packets_of}
use Rattle.tac_worker.specs.declared.ahead.Ahead.{Ahead}
use Rattle.tac_worker.specs.declared.end.End.{End}
use Rattle.tac_worker.specs.declared.link.Link.TheInside.{Inside}
use Rattle.tac_worker.specs.Ahead.{IsAhead, IsTurnOf, seen_by, ask_of, ask_ahead, IsSomeOfPassword, WaitsForIt}
use Rattle.tac_worker.specs.Linked.{Linked, IsLinked, AsksPassword}
use Rattle.tac_worker.specs.Linking.{connection_of, IsKept}
use Rattle.tac_worker.specs.Noting.{answered}
use Rattle.tac_worker.specs.Served.{asks, asks_in}
use Rattle.tac_worker.specs.Worked.{Exchange, asks_of}
use Rattle.tac_worker.proofs.LinkFacts.{ServingOn, as_open}
use Rattle.tac_worker.proofs.NoteFacts.{noted_made}
use Rattle.tac_worker.proofs.TurnFacts.{next_is, asks_first}

-- the asks that were called
asks_called : (made : List Exchange) → map (λ (call : Ask × Answer). call.0) (map answered made) ≡ asks_of made
asks_called [] = refl
asks_called (exchange ∷ made) = ap (λ (l : List Ask). exchange.ask ∷ l) (asks_called made)

module _ {S V : Type 0} (refuses : S → Ask → HallFault → Type 0) (takes refuses_notice : V → Notice → V → Type 0) where
  -- with nothing found
  pub kept_bare : (link : Inside S V) → link.ahead ≡ None → WaitsForIt link.digest link.ahead → IsLinked refuses takes refuses_notice link.end (connection_of link) link.stream → IsKept refuses takes refuses_notice link
  kept_bare link none password linked = record {
    linked = subst (λ (ahead : Option Ahead). IsLinked refuses takes refuses_notice link.end (connection_of link) (seen_by ahead link.stream)) (sym none) linked;
    ahead = subst (λ (ahead : Option Ahead). IsAhead link.door.now ahead link.stream) (sym none) tt;
    due = λ rests. none;
    password = password;
  }

  -- where nothing was found, it stands so by its stream
  pub linked_bare : (link : Inside S V) → link.ahead ≡ None → IsKept refuses takes refuses_notice link → IsLinked refuses takes refuses_notice link.end (connection_of link) link.stream
  linked_bare link none kept = subst (λ (ahead : Option Ahead). IsLinked refuses takes refuses_notice link.end (connection_of link) (seen_by ahead link.stream)) none kept.linked

  -- something may be found where it doesn't rest
  pub kept_ahead : (was now : Inside S V) → IsKept refuses takes refuses_notice was → was.rests ≡ false → connection_of now ≡ connection_of was → now.end ≡ was.end → seen_by now.ahead now.stream ≡ seen_by was.ahead was.stream
      → IsAhead now.door.now now.ahead now.stream → now.rests ≡ was.rests → WaitsForIt now.digest now.ahead → IsKept refuses takes refuses_notice now
  kept_ahead was now kept rests same end seen ahead still password = record {
    linked =
        subst (λ (e : Option End). IsLinked refuses takes refuses_notice e (connection_of now) (seen_by now.ahead now.stream)) (sym end)
        (subst (λ (l : Linked S V). IsLinked refuses takes refuses_notice was.end l (seen_by now.ahead now.stream)) (sym same)
        (subst (λ (s : Stream). IsLinked refuses takes refuses_notice was.end (connection_of was) s) (sym seen) kept.linked));
    ahead = ahead;
    due = λ rested. absurd (true≢false (sym rested ∙ still ∙ rests));
    password = password;
  }

  -- what was found ahead is the first ask that wasn't called
  asks_ahead : (link : Linked S V) (was now : Stream) (turn : Result Turn AllocError) → ServingOn refuses takes refuses_notice link was → IsTurnOf link.door was turn now → IsSomeOfPassword (ask_of turn) → AsksPassword link
  asks_ahead link was now (Ok (turns.Packet packet (steps.Asks ask slot))) s n password =
      let taken = take s.taken (cut link.door s.input).packets in
      let left = drop s.taken (cut link.door s.input).packets in
      let earlier = packets_of link.door taken in
      let f = next_is link.door s.input s.taken packet (steps.Asks ask slot) (n.found s.input s.taken s.ready s.stands) in
      let later = if slot.single then asks_in link.door (clear link.door f.frame ∷ earlier) f.more else [] in
      let came = f.serves in
      let first : asks_in link.door earlier (f.frame ∷ f.more) ≡ ask ∷ later = asks_first link.door earlier f.frame f.more ∙ rw came refl in
      let called = ap (map (λ (call : Ask × Answer). call.0)) (noted_made [] s.goes.made link.called s.goes.makes) ∙ asks_called s.goes.made in
      record {
        ask = ask;
        later = later;
        next =
            ap (asks link.door) (s.read ∙ append-nil s.input)
            ∙ ap (asks_in link.door []) (sym (take-append-drop s.taken (cut link.door s.input).packets))
            ∙ s.goes.handled.asks left
            ∙ ap (λ (l : List Packet). asks_of s.goes.made ++ asks_in link.door l left) (append-nil earlier)
            ∙ ap (λ (l : List Frame). asks_of s.goes.made ++ asks_in link.door earlier l) f.left
            ∙ ap (λ (l : List Ask). asks_of s.goes.made ++ l) first
            ∙ ap (λ (l : List Ask). l ++ ask ∷ later) (sym called);
        password = password;
      }
  asks_ahead link was now (Ok (turns.Packet packet (steps.Reply reply ends))) s n password = absurd password
  asks_ahead link was now (Ok (turns.Packet packet steps.Silent)) s n password = absurd password
  asks_ahead link was now (Ok (turns.Packet packet steps.Close)) s n password = absurd password
  asks_ahead link was now (Ok turns.Need) s n password = absurd password
  asks_ahead link was now (Ok (turns.Refused header)) s n password = absurd password
  asks_ahead link was now (Ok turns.Close) s n password = absurd password
  asks_ahead link was now (Err error) s n password = absurd password

  -- so is its password where one is to be worked out first
  pub asks_password : (link : Inside S V) → IsKept refuses takes refuses_notice link → link.end ≡ None → IsSomeOfPassword (ask_ahead link.ahead) → AsksPassword (connection_of link)
  asks_password link kept unended password =
      by link.ahead kept.ahead (as_open refuses takes refuses_notice link.end (connection_of link) (seen_by link.ahead link.stream) unended kept.linked).0 password
    where
      by : (ahead : Option Ahead) → IsAhead link.door.now ahead link.stream → ServingOn refuses takes refuses_notice (connection_of link) (seen_by ahead link.stream) → IsSomeOfPassword (ask_ahead ahead) → AsksPassword (connection_of link)
      by (Some ahead) found s p = asks_ahead (connection_of link) ahead.was.value link.stream ahead.turn s found p
      by None found s p = absurd p
