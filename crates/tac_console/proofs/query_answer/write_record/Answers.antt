use Rattle.std.proofs.Common.{append_assoc}
use Rattle.tac_console.proofs.query_answer.write_record.Goals as goal

pub returns : goal.returns
returns c =
    rw (
      c.in_ok-push.ensures.items,
      c.in_ok-write_line_field.ensures,
      c.in_ok-write-3.ensures.bytes,
      c.in_ok-write_percent-2.ensures,
      c.in_ok-write-2.ensures.bytes,
      c.in_ok-write_percent.ensures,
      c.in_ok-write.ensures.bytes,
      c.kind_text-kind.ensures,
      c.as_slice.ensures,
      c.as_slice-2.ensures,
    ) (simp append_assoc)
