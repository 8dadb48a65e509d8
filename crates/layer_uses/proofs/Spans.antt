-- A refusal that lies in a text as one of rules does lies in it as one of tokens does.
use Rattle.std.proofs.Common.{ℕ, Result, Ok, Err, IfErr}
use Rattle.pgq_base.specs.declared.refusal.Refusal.{Refusal}
use Rattle.pgq_base.specs.declared.refusal.Stop.{Stop}
use Rattle.pgq_base.specs.declared.refusal.Stop.TheVariants.{Refused, NoMemory}
use Rattle.sql_lexer.specs.Spans.{RefusalLiesIn}
use Rattle.graph_ast.specs.declared.catalog.Catalog.{Catalog}
use Rattle.view_check.specs.Checks.{StopLiesIn}

pub stop_lies : (length : ℕ) (result : Result Catalog (Stop Refusal)) → StopLiesIn length result → IfErr result (RefusalLiesIn length)
stop_lies length (Ok catalog) lies = tt
stop_lies length (Err (Refused refusal)) lies = lies
stop_lies length (Err NoMemory) lies = tt
