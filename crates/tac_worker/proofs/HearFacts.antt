-- What a read brings.
use Rattle.std.proofs.Common.{◌≡◌, ℕ, List, [], ◌++◌, length, ◌<◌, Option, Some, Result, Ok, Err, IsErrAnd, refl, sym, ap, ◌∙◌, append-nil}
use Rattle.std.specs.Io.KnownBytes.{Consumes, Keeps, IsAtEnd}
use Rattle.std.proofs.KnownBytes.{Consumes-nil, Consumes-kept}
use Rattle.tac_wire.specs.declared.door.Door.{Door}
use Rattle.tac_wire.specs.declared.frame.Frame.{Frame}
use Rattle.tac_wire.specs.Stream.{Parts, Tail, open_end, fault, cut, continued}
use Rattle.tac_stream.specs.declared.stream.Stream.{Stream}
use Rattle.tac_worker.specs.declared.end.End.{End}
use Rattle.tac_worker.specs.declared.end.End.TheVariants.{Finished, Memory, ReadFault}
use Rattle.tac_worker.specs.Working.{Prolongs, HearsMore, Heard, Noted}

-- after a header that is refused no packet comes; else the open end goes on
pub prolongs_cut : (piece : List ℕ) → ((door : Door) (bytes more : List ℕ) → cut door (bytes ++ more) ≡ continued door (cut door bytes) more) → Prolongs piece
prolongs_cut piece law = λ door bytes. by_tail door bytes (cut door bytes).packets (cut door bytes).tail refl
  where
    by_tail : (door : Door) (bytes : List ℕ) (packets : List Frame) (tail : Tail) → cut door bytes ≡ record { packets = packets; tail = tail }
        → (more : List Frame) × ((cut door (bytes ++ piece)).packets ≡ packets ++ more)
    by_tail door bytes packets (open_end rest) e = ((cut door (rest ++ piece)).packets, ap (λ (p : Parts). p.packets) (law door bytes piece ∙ ap (λ (p : Parts). continued door p piece) e))
    by_tail door bytes packets (fault reason) e = ([], ap (λ (p : Parts). p.packets) (law door bytes piece ∙ ap (λ (p : Parts). continued door p piece) e) ∙ sym (append-nil packets))

-- nothing was read
pub hears_nothing : (before after : Option (List ℕ)) (stream : Stream) → Keeps before after → HearsMore before after stream stream
hears_nothing before after stream kept = record {
  piece = [];
  read = Consumes-kept before before after [] (Consumes-nil before) kept;
  prolongs = λ door bytes. ([], rw (append-nil bytes) (sym (append-nil (cut door bytes).packets)));
  closed = refl;
  pending = refl;
  stands = λ door bytes taken open_still stands. rw (append-nil bytes) stands;
}

-- a piece was read, and there was no memory for it
pub heard_memory : (result : Result (Unit {0}) End) (before after : Option (List ℕ)) (was now : Stream) (piece : List ℕ) → IsErrAnd result (λ end. end ≡ Memory)
    → 0 < length piece → Consumes before after piece → Prolongs piece → Heard result before after was now
heard_memory (Ok _) before after was now piece is some read prolongs = absurd is
heard_memory (Err end) before after was now piece is some read prolongs = rw is (piece, some, read, prolongs)

-- ---- and was noted

-- nothing was read
pub noted_nothing : (before after : Option (List ℕ)) (bytes : List ℕ) (stream : Stream) → Keeps before after → Noted (Ok tt) before after bytes bytes stream stream
noted_nothing before after bytes stream kept =
    ([], sym (append-nil bytes), Consumes-kept before before after [] (Consumes-nil before) kept, λ e. absurd cc, hears_nothing (Some []) (Some []) stream refl)

-- the reader failed
pub noted_fault : (before after : Option (List ℕ)) (bytes : List ℕ) (stream : Stream) → Keeps before after → Noted (Err ReadFault) before after bytes bytes stream stream
noted_fault before after bytes stream kept =
    ([], sym (append-nil bytes), Consumes-kept before before after [] (Consumes-nil before) kept, λ e. absurd cc, refl)

-- the reader has no more
pub noted_end : (before after : Option (List ℕ)) (old_bytes new_bytes : List ℕ) (stream : Stream) → new_bytes ≡ old_bytes ++ [] → Consumes before after [] → IsAtEnd after → Noted (Err Finished) before after old_bytes new_bytes stream stream
noted_end before after old_bytes new_bytes stream noted read end = ([], noted, read, λ e. end, (refl, refl))

-- a piece was read, and there was no memory for it
pub noted_memory : (result : Result (Unit {0}) End) (before after : Option (List ℕ)) (old_bytes new_bytes : List ℕ) (was now : Stream) (piece : List ℕ) → new_bytes ≡ old_bytes ++ piece → IsErrAnd result (λ end. end ≡ Memory)
    → 0 < length piece → Consumes before after piece → Prolongs piece → Noted result before after old_bytes new_bytes was now
noted_memory (Ok _) before after old_bytes new_bytes was now piece noted is some read prolongs = absurd is
noted_memory (Err end) before after old_bytes new_bytes was now piece noted is some read prolongs =
    rw is (piece, noted, read, λ e. absurd cc, (piece, some, sym (append-nil piece), prolongs))

-- a piece was read
pub noted_more : (before after : Option (List ℕ)) (old_bytes new_bytes : List ℕ) (was now : Stream) (piece : List ℕ) → new_bytes ≡ old_bytes ++ piece → Consumes before after piece
    → HearsMore (Some piece) (Some []) was now → Noted (Ok tt) before after old_bytes new_bytes was now
noted_more before after old_bytes new_bytes was now piece noted read more = (piece, noted, read, λ e. absurd cc, more)
