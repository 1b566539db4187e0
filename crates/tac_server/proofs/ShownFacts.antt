-- What was sent, shown packet by packet.
use Rattle.std.proofs.Common.{◌≡◌, ℕ, ◌+◌, ◌<◌, ◌≤◌, List, [], ◌∷◌, ◌++◌, length, take, drop, refl, sym, ap, ◌∙◌, append_assoc, append-nil, arith}
use Rattle.std.proofs.Math.Seq.{take-append_seam, drop-append_seam}
use Rattle.std.proofs.lemmas.List.{take-append-le}
use Rattle.tac_wire.specs.declared.door.Door.TheVariants.{Padded}
use Rattle.tac_wire.specs.Header.{header_of}
use Rattle.tac_conn.specs.declared.packet.Packet.{Packet}
use Rattle.tac_conn.specs.Packet.{sent}
use Rattle.tac_desk.specs.Serving.{sent_bytes}
use Rattle.tac_conn.specs.Packet.{IsWhole}
use Rattle.tac_server.specs.Kept.{AreWhole, Sends}
use Rattle.tac_server.specs.Events.{reply_line, reply_lines}

-- ---- one packet

-- how long the first packet is
pub first_length : (bytes packet rest : List ℕ) → IsWhole packet → bytes ≡ packet ++ rest → 12 + (header_of (take 12 bytes)).length ≡ length packet
first_length bytes packet rest whole e =
    let long : 12 ≤ length packet = omega arith in
    let head : take 12 bytes ≡ take 12 packet = ap (λ (b : List ℕ). take 12 b) e ∙ take-append-le 12 packet rest long in
    rw head whole

-- it is split off at its length
pub split_there : (bytes packet rest front back : List ℕ) (n : ℕ) → front ≡ take n bytes → back ≡ drop n bytes → n ≡ length packet → bytes ≡ packet ++ rest → (front ≡ packet) × (back ≡ rest)
split_there bytes packet rest front back n f b len e =
    (f ∙ rw (len, e) (take-append_seam packet rest), b ∙ rw (len, e) (drop-append_seam packet rest))

-- ---- one after another

-- so many packets were shown; the lines of the others, after those, are all
pub record Progress (key : List ℕ) (number : ℕ) (rest old new : List ℕ) (packets : List Packet) : Type 0 where
  pub left : List Packet
  pub bytes : rest ≡ sent_bytes (Padded key) left
  pub whole : AreWhole (Padded key) left
  pub shows : new ++ reply_lines key number left ≡ old ++ reply_lines key number packets

pub shows_begun : (key : List ℕ) (number : ℕ) (bytes old : List ℕ) (packets : List Packet) → Sends (Padded key) [] bytes packets → Progress key number bytes old old packets
shows_begun key number bytes old packets s = record { left = packets; bytes = s.0; whole = s.1; shows = refl }

module _ (key : List ℕ) (number : ℕ) (rest old new : List ℕ) (packets : List Packet) (p : Progress key number rest old new packets) where
  ends_by : (left : List Packet) → p.left ≡ left → ((packet more : List ℕ) → IsWhole packet → rest ≡ packet ++ more → ⊥) → new ≡ old ++ reply_lines key number packets
  ends_by [] e none = sym (append-nil new) ∙ ap (λ (l : List Packet). new ++ reply_lines key number l) (sym e) ∙ p.shows
  ends_by (packet ∷ left) e none =
      let whole : AreWhole (Padded key) (packet ∷ left) = rw e at p.whole in
      absurd (none (sent (Padded key) packet) (sent_bytes (Padded key) left) whole.0 (p.bytes ∙ ap (λ (l : List Packet). sent_bytes (Padded key) l) e))

  -- no packet is left
  pub shows_all : (none : (packet more : List ℕ) → IsWhole packet → rest ≡ packet ++ more → ⊥) → new ≡ old ++ reply_lines key number packets
  shows_all none = ends_by p.left refl none

  goes_by : (left : List Packet) → p.left ≡ left → (packet next after : List ℕ) → length next < length rest
      → ((first more : List ℕ) → IsWhole first → rest ≡ first ++ more → (packet ≡ first) × (next ≡ more))
      → after ≡ new ++ reply_line key number packet → Progress key number next old after packets
  goes_by [] e packet next after shorter parts added =
      let none : length rest ≡ 0 = ap length (p.bytes ∙ ap (λ (l : List Packet). sent_bytes (Padded key) l) e) in absurd (omega arith)
  goes_by (first ∷ left) e packet next after shorter parts added =
      let whole : AreWhole (Padded key) (first ∷ left) = rw e at p.whole in
      let same = parts (sent (Padded key) first) (sent_bytes (Padded key) left) whole.0 (p.bytes ∙ ap (λ (l : List Packet). sent_bytes (Padded key) l) e) in
      record {
        left = left;
        bytes = same.1;
        whole = whole.1;
        shows = ap (λ (t : List ℕ). t ++ reply_lines key number left) (added ∙ ap (λ (b : List ℕ). new ++ reply_line key number b) same.0)
            ∙ append_assoc new (reply_line key number (sent (Padded key) first)) (reply_lines key number left) ∙ ap (λ (l : List Packet). new ++ reply_lines key number l) (sym e) ∙ p.shows;
      }

  -- one more packet was shown
  pub shows_more : (packet next after : List ℕ) → length next < length rest
      → ((first more : List ℕ) → IsWhole first → rest ≡ first ++ more → (packet ≡ first) × (next ≡ more))
      → after ≡ new ++ reply_line key number packet → Progress key number next old after packets
  shows_more packet next after shorter parts added = goes_by p.left refl packet next after shorter parts added
