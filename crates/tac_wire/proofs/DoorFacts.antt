-- What passes a door: as many bytes as before, and the same again at its other end.
use Rattle.std.proofs.Common.{◌≡◌, ℕ, List, length, take, true, refl, ap, ◌∙◌, arith}
use Rattle.std.proofs.lemmas.Nat.{and_or_self}
use Rattle.tac_wire.specs.Header.{unencrypted_flag}
use Rattle.tac_wire.specs.Pad.{seed, digests, xored, padded}
use Rattle.tac_wire.specs.Door.{is_flagged, opened, closed, marked}
use Rattle.tac_wire.specs.declared.door.Door.{Door}
use Rattle.tac_wire.specs.declared.door.Door.TheVariants.{Padded, Clear}
use Rattle.tac_wire.specs.declared.header.Header.{Header}
use Rattle.tac_wire.proofs.PadFacts.{length-pad, length-xored, xored-xored}

pub length-padded : (header : Header) (key body : List ℕ) → length (padded header key body) ≡ length body
length-padded header key body = length-xored body _ (omega (arith, length-pad (seed header key) (length body)))

pub padded-padded : (header : Header) (key body : List ℕ) → padded header key (padded header key body) ≡ body
padded-padded header key body =
    ap (λ (n : ℕ). xored (padded header key body) (take n (digests (seed header key) n))) (length-padded header key body)
    ∙ xored-xored body _ (omega (arith, length-pad (seed header key) (length body)))

pub length-closed : (door : Door) (header : Header) (body : List ℕ) → length (closed door header body) ≡ length body
length-closed (Padded key) header body = length-padded header key body
length-closed Clear header body = refl

-- in clear the header says that it is
pub flagged-marked : (header : Header) → is_flagged (marked Clear header).flags ≡ true
flagged-marked header = rw (and_or_self unencrypted_flag header.flags) refl

-- what is sent by a door is read at its other end
pub opened-closed : (door : Door) (header : Header) (body : List ℕ) → opened door (marked door header) (closed door (marked door header) body) ≡ body
opened-closed (Padded key) header body = padded-padded header key body
opened-closed Clear header body = rw (flagged-marked header) refl
