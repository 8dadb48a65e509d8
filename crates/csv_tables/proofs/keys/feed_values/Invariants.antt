use Rattle.std.proofs.Common.{◌≡◌, drop}
use Rattle.std.specs.Prelude.{flat_map, fold}
use Rattle.pgq_base.specs.Instances.{values_at}
use Rattle.csv_tables.specs.KeyHashes.{key_writes, writes}
use Rattle.csv_tables.proofs.keys.feed_values.Given as goal

abbrev pub invariant-loop-place : goal.invariant-loop-place
invariant-loop-place g l =
    fold g.H.Hasher.write l.hasher (flat_map writes (values_at (drop l.place-index l.key.columns.now) l.key.row.now))
    ≡ fold g.H.Hasher.write l.fn.hasher (key_writes l.key)
