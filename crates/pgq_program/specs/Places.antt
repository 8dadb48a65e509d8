-- The place that a refusal names.
use Rattle.std.specs.Prelude.{◌≡◌, ℕ, List, length, Option, None, Some, Err}
use Rattle.pgq_base.specs.Files.{content_of}
use Rattle.pgq_base.specs.declared.refusal.Span.{Span}
use Rattle.pgq_base.specs.declared.refusal.Role.{Role}
use Rattle.pgq_base.specs.declared.refusal.Role.TheVariants.{Schema, Query, Sql, Table}
use Rattle.pgq_base.specs.declared.refusal.Refusal.{Refusal}
use Rattle.pgq_base.specs.declared.refusal.Stop.{Stop}
use Rattle.pgq_base.specs.declared.refusal.Stop.TheVariants as s
use Rattle.sql_lexer.specs.Spans.{LiesIn}
use Rattle.sample_run.specs.SampleRun.{sample_query}
use Rattle.pgq_program.specs.declared.halt.Halt.TheVariants as h
use Rattle.pgq_program.specs.Commands.{Asked}
use Rattle.pgq_program.specs.Lines.{refusal_line}
use Rattle.pgq_program.specs.Steps.{Owes}

-- the one of three texts that has the role
abbrev pub of_role : Option (List ℕ) → Option (List ℕ) → Option (List ℕ) → Role → Option (List ℕ)
of_role schema query sql Schema = schema
of_role schema query sql Query = query
of_role schema query sql Sql = sql
of_role schema query sql Table = None

-- the text of each role that the words ask for; the generated run has its own query text
abbrev pub text_for : Option Asked → List (List ℕ × List ℕ) → Role → Option (List ℕ)
text_for None files = of_role None None None
text_for (Some (Asked.OfTranslate schema query)) files = of_role (content_of schema files) (content_of query files) None
text_for (Some (Asked.OfCheck schema)) files = of_role (content_of schema files) None None
text_for (Some (Asked.OfCheckQuery schema query)) files = of_role (content_of schema files) (content_of query files) None
text_for (Some (Asked.OfRun schema query tables)) files = of_role (content_of schema files) (content_of query files) None
text_for (Some (Asked.OfSample count)) files = of_role None (Some sample_query) None
text_for (Some (Asked.OfEval schema sql tables)) files = of_role (content_of schema files) None (content_of sql files)

-- the span lies in the text; where there is none it is 0-0
abbrev pub IsPart : Option (List ℕ) → Span → Type 0
IsPart None span = (span.from ≡ 0) × (span.to ≡ 0)
IsPart (Some text) span = LiesIn (length text) span

-- the refusal names a part of the text of its role
abbrev pub NamesPart : (Role → Option (List ℕ)) → Refusal → Type 0
NamesPart texts refusal = IsPart (texts refusal.role) refusal.span

-- so does what stops a call, unless it is want of memory
abbrev pub StopNamesPart : (Role → Option (List ℕ)) → Stop Refusal → Type 0
StopNamesPart texts (s.Refused refusal) = NamesPart texts refusal
StopNamesPart texts s.NoMemory = Unit {0}

-- the line is that of the refusal that is due, which names a part of the text of its role
pub record IsLineDue (asked : Option Asked) (files : List (List ℕ × List ℕ)) (line : List ℕ) : Type 0 where
  pub refusal : Refusal
  pub due : Owes asked files (Err (h.Refused refusal))
  pub is_line : line ≡ refusal_line refusal
  pub in_text : NamesPart (text_for asked files) refusal
