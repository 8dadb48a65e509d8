-- Spans that lie in a text.
use Rattle.std.specs.Prelude.{ℕ, ◌≤◌}
use Rattle.pgq_base.specs.declared.refusal.Span.{Span}

-- the span is a part of a text of that length
abbrev pub LiesIn : ℕ → Span → Type 0
LiesIn length span = (span.from ≤ span.to) × (span.to ≤ length)
