use Rattle.std.proofs.Common.{rules, ◌≡◌, length}
use Rattle.std.proofs.lemmas.List.{drop-drop}
use Rattle.base_block.specs.Layout.{put_at}
use Rattle.base_block.proofs.block.put_store.Goals as goal

pub returns-clause-put : goal.returns-clause-put
unfolding put_at
returns-clause-put c =
    let long : length c.args.store.now ≡ 16 = search rules in
    rw (c.copy_from_slice.ensures.after, c.as_bytes.ensures, long, drop-drop)
