-- What is sent: whole packets.
use Rattle.std.proofs.Common.{◌≡◌, ℕ, List, [], ◌∷◌, ◌++◌, refl, sym, ap, ◌∙◌, append_assoc, append-nil}
use Rattle.tac_wire.specs.declared.door.Door.{Door}
use Rattle.tac_conn.specs.declared.packet.Packet.{Packet}
use Rattle.tac_conn.specs.declared.reply.Reply.{Reply}
use Rattle.tac_conn.specs.Packet.{sent, IsWhole}
use Rattle.tac_conn.specs.Reply.{packet_of}
use Rattle.tac_desk.specs.Serving.{sent_bytes}
use Rattle.tac_server.specs.Kept.{AreWhole, Sends}

pub whole-append : (door : Door) (first second : List Packet) → AreWhole door first → AreWhole door second → AreWhole door (first ++ second)
whole-append door [] second f s = s
whole-append door (packet ∷ first) second f s = (f.0, whole-append door first second f.1 s)

sent_bytes-append : (door : Door) (first second : List Packet) → sent_bytes door (first ++ second) ≡ sent_bytes door first ++ sent_bytes door second
sent_bytes-append door [] second = refl
sent_bytes-append door (packet ∷ first) second =
    ap (λ (t : List ℕ). sent door packet ++ t) (sent_bytes-append door first second) ∙ sym (append_assoc (sent door packet) (sent_bytes door first) (sent_bytes door second))

-- nothing is sent
pub sends_none : (door : Door) (old new : List ℕ) → new ≡ old → Sends door old new []
sends_none door old new e = (e ∙ sym (append-nil old), tt)

-- one packet is sent
pub sends_one : (door : Door) (old new : List ℕ) (reply : Reply) → new ≡ old ++ sent door (packet_of reply) → IsWhole (sent door (packet_of reply)) → Sends door old new (packet_of reply ∷ [])
sends_one door old new reply e whole = (e ∙ ap (λ (t : List ℕ). old ++ t) (sym (append-nil (sent door (packet_of reply)))), (whole, tt))

-- and more after it
pub sends-append : (door : Door) (old now new : List ℕ) (first second : List Packet) → Sends door old now first → Sends door now new second → Sends door old new (first ++ second)
sends-append door old now new first second f s = (
  s.0 ∙ ap (λ (t : List ℕ). t ++ sent_bytes door second) f.0 ∙ append_assoc old (sent_bytes door first) (sent_bytes door second)
      ∙ ap (λ (t : List ℕ). old ++ t) (sym (sent_bytes-append door first second)),
  whole-append door first second f.1 s.1,
)
