use Rattle.std.proofs.Common.{subst}
use Rattle.sql_lexer.proofs.Uniqueness.{tokens_unique}
use Rattle.sql_algebra.specs.Layout.{layout}
use Rattle.sql_algebra.specs.Meant.{SpellsQuery}
use Rattle.sql_algebra.proofs.Queries.{layout_means}
use Rattle.sql_reader.proofs.ReadingLemmas.{is_read}
use Rattle.sql_reader.proofs.laws.printed_is_read.Goals as goal

pub returns : goal.returns
returns c = λ catalog query tokens printable sound are shallow.
    let m = layout_means query catalog printable sound in
    is_read tokens catalog query (subst (λ ts. SpellsQuery ts query) (tokens_unique (layout query) m.tokens tokens m.read are) m.spelled) sound shallow
