-- The shape of the trees that the grammar gives: no literal is Null, and a list of IN or COALESCE has a member. The grammar gives it to
-- a text whose decimals are sizes, as those that `lex` answers are.
use Rattle.std.specs.Prelude.{◌≡◌, Bool, true, ◌&&◌, is_some, List}
use Rattle.std.specs.List.{list_all, AllByRecursion}
use Rattle.pgq_base.specs.Numerals.{is_size}
use Rattle.pgq_base.specs.Values.{class_of_value}
use Rattle.sql_lexer.specs.declared.token.Kind.{Kind}
use Rattle.sql_lexer.specs.declared.token.Kind.TheVariants.{Decimal}
use Rattle.sql_lexer.specs.declared.token.Token.{Token}
use Rattle.expr_tree.specs.declared.tree.Expr.{Expr}
use Rattle.expr_tree.specs.declared.tree.Expr.TheOpen.{Expr-F}
use Rattle.expr_tree.specs.declared.tree.Expr.TheFolds.{fold-Expr}
use Rattle.expr_tree.specs.Classes.{children_of, is_filled}
use Rattle.condition_grammar.specs.declared.spanned.Spanned.{Spanned}
use Rattle.sql_algebra.specs.declared.text.SqlText.{SqlText}
use Rattle.sql_algebra.specs.declared.text.SelectText.{SelectText, SelectText-F, fold-SelectText}
use Rattle.sql_algebra.specs.declared.text.ItemText.{ItemText}
use Rattle.sql_algebra.specs.declared.text.ConjunctText.{ConjunctText, ConjunctText-F, fold-ConjunctText}
use Rattle.sql_algebra.specs.declared.text.ColumnRef.{ColumnRef}
use Rattle.sql_reader.specs.Phases.{members_of}

abbrev pub node_is_shaped : {L A : Type 0} → Expr-F L A → Bool
node_is_shaped (Expr-F.Lit v) = is_some (class_of_value v)
node_is_shaped (Expr-F.Null c) = true
node_is_shaped (Expr-F.Leaf l) = true
node_is_shaped (Expr-F.Compare op a b) = true
node_is_shaped (Expr-F.All es) = true
node_is_shaped (Expr-F.Any es) = true
node_is_shaped (Expr-F.Not a) = true
node_is_shaped (Expr-F.Is a t negated) = true
node_is_shaped (Expr-F.InList a es negated) = is_filled es
node_is_shaped (Expr-F.Between a b c negated) = true
node_is_shaped (Expr-F.Coalesce es) = is_filled es

abbrev pub shape_step : {L : Type 0} → Expr-F L Bool → Bool
shape_step x = list_all (λ b. b) (children_of x) && node_is_shaped x

abbrev pub is_shaped : {L : Type 0} → Expr L → Bool
is_shaped {L} = fold-Expr L Bool shape_step

abbrev pub value_is_shaped : Spanned ColumnRef → Bool
value_is_shaped value = is_shaped value.tree

abbrev pub item_is_shaped : ItemText → Bool
item_is_shaped item = list_all value_is_shaped (members_of item.on)

abbrev pub conjunct_step : ConjunctText-F Bool Bool → Bool
conjunct_step (ConjunctText-F.Plain condition) = value_is_shaped condition
conjunct_step (ConjunctText-F.NotExists select) = select

abbrev pub select_step : SelectText-F Bool Bool → Bool
select_step select = list_all (λ column. value_is_shaped column.value) select.columns && (list_all item_is_shaped select.from && list_all (λ conjunct. conjunct) select.conjuncts)

abbrev pub select_is_shaped : SelectText → Bool
select_is_shaped = fold-SelectText Bool Bool conjunct_step select_step

abbrev pub conjunct_is_shaped : ConjunctText → Bool
conjunct_is_shaped = fold-ConjunctText Bool Bool conjunct_step select_step

-- each expression of the text has that shape
abbrev pub HasShape : SqlText → Type 0
HasShape text = list_all select_is_shaped text.selects ≡ true

-- a decimal is a size with the least scale that it has, of at most 18 digits
abbrev pub IsSized : Kind → Type 0
IsSized (Decimal size) = is_size size ≡ true
IsSized other = Unit {0}

-- so is each decimal among the tokens
abbrev pub AreSized : List Token → Type 0
AreSized tokens = AllByRecursion (λ token. IsSized token.kind) tokens
