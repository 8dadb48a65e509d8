use Rattle.normal_form.proofs.Merging.{put_set}
use Rattle.normal_form.proofs.merged.put_at.Goals as goal

pub returns : goal.returns
returns c = put_set c.args.blocks.items c.args.place c.index_mut.result.now c.args.choice c.push.new.self c.requires c.index_mut.ensures.value c.in_ok-push.ensures.ok
