-- The parts of the line are texts and digits.
use Rattle.fts_top.proofs.loads.write_line.Goals as goal

pub returns-clause-sent : goal.returns-clause-sent
returns-clause-sent g c = rw (
  c.as_bytes.ensures.value,
  c.as_bytes-2.ensures.value,
  c.format.ensures.text,
  c.as_bytes-3.ensures.value,
  c.as_bytes-4.ensures.value,
  c.format-2.ensures.text,
  c.as_bytes-5.ensures.value,
  c.as_bytes-6.ensures.value,
  c.format-3.ensures.text,
  c.as_bytes-7.ensures.value,
  c.as_bytes-8.ensures.value,
  c.format-4.ensures.text,
  c.as_bytes-9.ensures.value,
  c.as_bytes-10.ensures.value,
  c.format-5.ensures.text,
  c.as_bytes-11.ensures.value,
) at c.send_parts.ensures.sent
