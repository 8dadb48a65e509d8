-- The forms of conditions are spelled where their members are.
use Rattle.std.proofs.Common.{◌≡◌, refl, ap, ◌∙◌, ℕ, suc, Bool, true, ◌&&◌, nat_le, Option, Some, None, List, [], ◌∷◌, map, length, arith}
use Rattle.std.proofs.lemmas.Bool.Decides.{nat_tests}
use Rattle.std.proofs.lemmas.List.{length-map}
use Rattle.pgq_base.specs.declared.refusal.Span.{Span}
use Rattle.pgq_base.specs.declared.value.Value.{Value}
use Rattle.expr_tree.specs.declared.tree.Comparison.{Comparison}
use Rattle.expr_tree.specs.declared.tree.Test.{Test}
use Rattle.expr_tree.specs.declared.tree.Expr.{Expr, Expr-F}
use Rattle.expr_tree.specs.declared.tree.Expr.TheVariants as v
use Rattle.expr_tree.proofs.Folds.{at_layer}
use Rattle.graph_ast.specs.declared.query.PropertyRef.{PropertyRef}
use Rattle.graph_meaning.proofs.Members.{both_true}
use Rattle.condition_grammar.specs.Spans.{tree_of, Tail, unless_none, compared, ranged, listed, tested, all_of, any_of, not_if, coalesced, literal}
use Rattle.sql_algebra.specs.Printable.{has_one, has_two, all_true}
use Rattle.pattern_parser.specs.Tests.{Tree}
use Rattle.plain_queries.proofs.RuleValues.{Of, IfGiven, Each}
use Rattle.plain_queries.proofs.SpelledLiterals.{HasText}
use Rattle.plain_queries.proofs.SpelledTrees.{spelled_step, is_spelled}

abbrev pub Spelled : Of Tree
Spelled c = is_spelled c.tree ≡ true

-- one or more
abbrev pub SomeSpelled : Of (List Tree)
SomeSpelled cs = (has_one cs ≡ true) × Each Spelled cs

-- two or more
abbrev pub TwoSpelled : Of (List Tree)
TwoSpelled cs = (has_two cs ≡ true) × Each Spelled cs

-- ---- lists

pub one_of : {A : Type 0} (a : A) (rest : List A) → has_one (a ∷ rest) ≡ true
one_of a rest = some (length rest)
  where
    some : (n : ℕ) → nat_le 1 (suc n) ≡ true
    some n = grind (arith, nat_tests)

pub two_of : {A : Type 0} (a b : A) (rest : List A) → has_two (a ∷ b ∷ rest) ≡ true
two_of a b rest = some (length rest)
  where
    some : (n : ℕ) → nat_le 2 (suc (suc n)) ≡ true
    some n = grind (arith, nat_tests)

-- one more than one or more
pub one_more : (c : Tree) (cs : List Tree) → Spelled c → SomeSpelled cs → TwoSpelled (c ∷ cs)
one_more c [] p h = absurd (no_more h.0)
  where
    no_more : nat_le 1 0 ≡ true → ⊥
    no_more e = cc
one_more c (d ∷ ds) p h = (two_of c d ds, (p, h.1))

abbrev spelled_of : List Tree → List Bool
spelled_of cs = map is_spelled (map tree_of cs)

as_many : (cs : List Tree) → length (spelled_of cs) ≡ length cs
as_many cs = length-map (map tree_of cs) is_spelled ∙ length-map cs tree_of

all_spelled : (cs : List Tree) → Each Spelled cs → all_true (spelled_of cs) ≡ true
all_spelled [] h = refl
all_spelled (c ∷ cs) h = both_true (is_spelled c.tree) (all_true (spelled_of cs)) h.0 (all_spelled cs h.1)

some_spelled : (cs : List Tree) → SomeSpelled cs → (has_one (spelled_of cs) && all_true (spelled_of cs)) ≡ true
some_spelled cs h = both_true (has_one (spelled_of cs)) (all_true (spelled_of cs)) (ap (nat_le 1) (as_many cs) ∙ h.0) (all_spelled cs h.1)

two_spelled : (cs : List Tree) → TwoSpelled cs → (has_two (spelled_of cs) && all_true (spelled_of cs)) ≡ true
two_spelled cs h = both_true (has_two (spelled_of cs)) (all_true (spelled_of cs)) (ap (nat_le 2) (as_many cs) ∙ h.0) (all_spelled cs h.1)

-- ---- the forms

pub literal_spelled : (span : Span) (x : Value) → HasText x → Spelled (literal span x)
literal_spelled span x h = at_layer spelled_step (Expr-F.Lit x) (v.Lit x) (v.rolls-Lit x) ∙ h

pub leaf_spelled : (leaf : PropertyRef) → is_spelled (v.Leaf leaf) ≡ true
leaf_spelled leaf = at_layer spelled_step (Expr-F.Leaf leaf) (v.Leaf leaf) (v.rolls-Leaf leaf)

pub compared_spelled : (op : Comparison) (a b : Tree) → Spelled a → Spelled b → Spelled (compared op b a)
compared_spelled op a b p q =
    at_layer spelled_step (Expr-F.Compare op a.tree b.tree) (v.Compare op a.tree b.tree) (v.rolls-Compare op a.tree b.tree)
    ∙ both_true (is_spelled a.tree) (is_spelled b.tree) p q

pub ranged_spelled : (n : Bool) (a b c : Tree) → Spelled a → Spelled b → Spelled c → Spelled (ranged n b c a)
ranged_spelled n a b c p q r =
    at_layer spelled_step (Expr-F.Between a.tree b.tree c.tree n) (v.Between a.tree b.tree c.tree n) (v.rolls-Between a.tree b.tree c.tree n)
    ∙ both_true (is_spelled a.tree) (is_spelled b.tree && is_spelled c.tree) p (both_true (is_spelled b.tree) (is_spelled c.tree) q r)

pub listed_spelled : (n : Bool) (a : Tree) (bs : List Tree) (closing : Span) → Spelled a → SomeSpelled bs → Spelled (listed n bs closing a)
listed_spelled n a bs closing p q =
    at_layer spelled_step (Expr-F.InList a.tree (map tree_of bs) n) (v.InList a.tree (map tree_of bs) n) (v.rolls-InList a.tree (map tree_of bs) n)
    ∙ both_true (is_spelled a.tree) (has_one (spelled_of bs) && all_true (spelled_of bs)) p (some_spelled bs q)

pub tested_spelled : (t : Test) (n : Bool) (word : Span) (a : Tree) → Spelled a → Spelled (tested t n word a)
tested_spelled t n word a p = at_layer spelled_step (Expr-F.Is a.tree t n) (v.Is a.tree t n) (v.rolls-Is a.tree t n) ∙ p

pub negated_spelled : (a : Tree) → Spelled a → is_spelled (v.Not a.tree) ≡ true
negated_spelled a p = at_layer spelled_step (Expr-F.Not a.tree) (v.Not a.tree) (v.rolls-Not a.tree) ∙ p

pub not_spelled : (o : Option Span) (a : Tree) → Spelled a → Spelled (not_if o a)
not_spelled None a p = p
not_spelled (Some word) a p = negated_spelled a p

pub all_of_spelled : (c : Tree) (ds : List Tree) → Spelled c → Each Spelled ds → Spelled (all_of c ds)
all_of_spelled c [] p h = p
all_of_spelled c (d ∷ ds) p h =
    let es : List (Expr PropertyRef) = c.tree ∷ d.tree ∷ map tree_of ds in
    at_layer spelled_step (Expr-F.All es) (v.All es) (v.rolls-All es) ∙ two_spelled (c ∷ d ∷ ds) (two_of c d ds, (p, h))

pub any_of_spelled : (c : Tree) (ds : List Tree) → Spelled c → Each Spelled ds → Spelled (any_of c ds)
any_of_spelled c [] p h = p
any_of_spelled c (d ∷ ds) p h =
    let es : List (Expr PropertyRef) = c.tree ∷ d.tree ∷ map tree_of ds in
    at_layer spelled_step (Expr-F.Any es) (v.Any es) (v.rolls-Any es) ∙ two_spelled (c ∷ d ∷ ds) (two_of c d ds, (p, h))

pub coalesced_spelled : (word : Span) (cs : List Tree) (closing : Span) → TwoSpelled cs → Spelled (coalesced word cs closing)
coalesced_spelled word cs closing h =
    let es : List (Expr PropertyRef) = map tree_of cs in
    at_layer spelled_step (Expr-F.Coalesce es) (v.Coalesce es) (v.rolls-Coalesce es) ∙ two_spelled cs h

-- ---- what is made of an operand

abbrev pub Tailed : Of (Tail PropertyRef)
Tailed tail = (c : Tree) → Spelled c → Spelled (tail c)

pub unless_spelled : (o : Option (Tail PropertyRef)) → IfGiven Tailed o → Tailed (unless_none o)
unless_spelled None h c p = p
unless_spelled (Some tail) h c p = h c p
