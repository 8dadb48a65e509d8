use Rattle.std.proofs.Common.{◌≡◌, List, map, filter, sym, ap, subst, ◌∙◌}
use Rattle.std.specs.List.{list_all}
use Rattle.multisets.specs.Bags.{IsIn}
use Rattle.graph_meaning.proofs.Members.{from_filter}
use Rattle.sql_algebra.specs.declared.tree.Candidate.{Candidate}
use Rattle.sql_algebra.specs.declared.tree.Conjunct.{Conjunct}
use Rattle.sql_algebra.specs.Meaning.{conjunct_holds}
use Rattle.path_lowering.proofs.PlacingSteps.{if_ok}
use Rattle.shortest_lowering.specs.NoShorter.{is_shorter, none_between}
use Rattle.shortest_lowering.proofs.BetweenMeans.{shorter_at, none_means}
use Rattle.shortest_lowering.proofs.none_between.no_shorter.Goals as goal

pub none_between-requires : goal.none_between-requires
none_between-requires c = λ candidate h.
    c.requires.formed candidate
    (from_filter (is_shorter c.index-candidates-own.result) candidate c.args.candidates.now
    (subst (λ (l : List Candidate). IsIn candidate l) (ap (map (λ r. r.now)) c.as_slice.ensures ∙ c.in_ok-shorter.ensures) h)).0

pub returns-clause-exact : goal.returns-clause-exact
returns-clause-exact c =
    if_ok c.none_between.result _ _
    (λ all is. is ∙ ap (none_between c.args.first c.args.last)
    (ap (map (λ r. r.now)) c.as_slice.ensures ∙ c.in_ok-shorter.ensures
    ∙ shorter_at c.args.candidates.now c.args.own c.index-candidates-own.result c.index-candidates-own.is c.requires.own))
    c.none_between.ensures

pub returns-clause-means : goal.returns-clause-means
returns-clause-means c =
    if_ok c.none_between.result _ _
    (λ all is catalog instance outer.
    ap (list_all (λ conjunct. conjunct_holds catalog instance conjunct outer)) is
    ∙ none_means c.args.candidates.now c.args.own c.args.first c.args.last c.requires.formed catalog instance outer)
    (returns-clause-exact c)
