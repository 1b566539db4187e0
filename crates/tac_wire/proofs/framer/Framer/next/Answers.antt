use Rattle.std.proofs.Common.{◌≡◌, ℕ, ◌+◌, ◌-◌, take, drop, length, arith, refl, sym, ap, ◌∙◌}
use Rattle.std.proofs.lemmas.List.{length-drop, drop-drop, take_all}
use Rattle.tac_wire.specs.declared.framer.Next.TheVariants.{Packet}
use Rattle.tac_wire.specs.Stream.{unread, told, first_item}
use Rattle.tac_wire.proofs.StreamFacts.{cut-items, left-packet, left-fault, left-other, first_item-frame_bytes}
use Rattle.tac_wire.proofs.framer.Framer.next.Goals as goal
use Rattle.tac_wire.proofs.framer.Framer.next.Goals.{in-Packet, in-Fault, in_default}

pub returns-then-self-clause-items : goal.returns-then-self-clause-items
returns-then-self-clause-items c = cut-items c.args.door.now

pub returns-in_err-next-clause-items : goal.returns-in_err-next-clause-items
returns-in_err-next-clause-items c = cut-items c.args.door.now

pub returns-clause-items : goal.returns-clause-items
returns-clause-items c = cut-items c.args.door.now

pub returns-clause-left : goal.returns-clause-left
returns-clause-left c =
    let items = c.self.inside.buffer.items in
    let read = c.self.inside.read in
    let bytes = drop read items in
    let held : c.args.self.now ≡ unread bytes = sym c.self.view_is ∙ rw c.if-self.false refl in
    let slice : take (length c.deref.result.now - read) (drop read c.deref.result.now) ≡ bytes = rw c.deref.ensures.value (take_all (length items - read) bytes (omega (arith, length-drop read items))) in
    let exact : c.in_ok-next.next ≡ told (first_item c.args.door.now bytes) = rw slice at c.in_ok-next.ensures.exact in
    rw held (elim c.match-next.branch [
      | in-Packet w ↦
          let whole : Packet w.in-Packet.frame ≡ told (first_item c.args.door.now bytes) = sym w.in-Packet.is ∙ exact in
          let place : drop (12 + w.len.result) bytes ≡ drop (read + (12 + w.len.result)) items = drop-drop (12 + w.len.result) read items in
          w.self-is ∙ rw c.if-self.false (ap unread (sym place ∙ ap (λ (n : ℕ). drop (12 + n) bytes) w.len.ensures) ∙ left-packet c.args.door.now bytes w.in-Packet.frame whole)
      | in-Fault w ↦ w.self-is ∙ w.end.ensures ∙ left-fault (first_item c.args.door.now bytes) bytes w.in-Fault.field-0 (sym w.in-Fault.is ∙ exact)
      | in_default w ↦ w.self-is ∙ held ∙ left-other c.in_ok-next.next (first_item c.args.door.now bytes) bytes exact w.in_default.not-Packet w.in_default.not-Fault
    ])

pub returns-then-self-clause-again : goal.returns-then-self-clause-again
returns-then-self-clause-again c = first_item-frame_bytes c.args.door.now

pub returns-in_err-next-clause-again : goal.returns-in_err-next-clause-again
returns-in_err-next-clause-again c = first_item-frame_bytes c.args.door.now

pub returns-clause-again : goal.returns-clause-again
returns-clause-again c = first_item-frame_bytes c.args.door.now
