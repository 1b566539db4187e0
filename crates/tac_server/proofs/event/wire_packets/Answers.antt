use Rattle.std.proofs.Common.{refl, sym, ◌∙◌}
use Rattle.tac_server.proofs.EventFacts.{packets_end, packets_none, packets_more}
use Rattle.tac_server.proofs.event.wire_packets.Goals as goal

pub returns-in_default-2 : goal.returns-in_default-2
returns-in_default-2 c =
    let told = rw c.in-Some.is at c.fields.invariant in
    packets_none _ _ _ _ told _ _ c.first_field.ensures.fields (sym c.in_default-2.is ∙ c.in_ok-packet.ensures)

pub fields-preserved : goal.fields-preserved
fields-preserved c =
    let told = rw c.in-Some.is at c.fields.invariant in
    rw c.in_ok-extend_from_slice.ensures.ok
    (rw c.as_slice.ensures (packets_more _ _ _ _ told _ _ c.first_field.ensures.fields c.in-Some-2.packet (sym c.in-Some-2.is ∙ c.in_ok-packet.ensures)))

pub returns : goal.returns
returns c = packets_end _ _ _ _ (rw c.in_default.is at c.fields.invariant) refl
