use Rattle.std.proofs.Common.{sym, subst}
use Rattle.token_grammar.specs.Rules.{on}
use Rattle.token_grammar.specs.Code.{Parses}
use Rattle.token_reading.specs.Tokens.{class}
use Rattle.condition_grammar.specs.Classes.{is_date_literal}
use Rattle.condition_grammar.specs.Spans.{literal, reach}
use Rattle.condition_grammar.specs.Dates.{date_value}
use Rattle.condition_grammar.specs.Conditions as g
use Rattle.condition_grammar.specs.Conditions.{text_in}
use Rattle.pattern_parser.proofs.Puts.{one_put}
use Rattle.pattern_parser.proofs.leaves.date.Goals as goal

pub returns : goal.returns
unfolding g.date_text
returns c = subst (λ a. Parses a c.date_text.result c.date_text.new.tokens) (sym
    (one_put (on class is_date_literal) (λ t word. literal (reach word.span t.span) (date_value (text_in t.kind))) c.args.word c.args.tokens.now)) c.date_text.ensures
