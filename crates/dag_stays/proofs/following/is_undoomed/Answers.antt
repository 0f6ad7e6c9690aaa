-- No target failed.
use Rattle.meaning.specs.Dags.{target_names}
use Rattle.dag_stays.proofs.Becoming.{low_places, not_doomed}
use Rattle.dag_stays.proofs.following.is_undoomed.Goals as goal

pub none_failed-requires : goal.none_failed-requires
none_failed-requires c = low_places c.args.dag.now (target_names c.args.dag.now) c.args.plan.now.targets c.requires.few c.requires.plan.targets

pub returns-else-not-dag : goal.returns-else-not-dag
returns-else-not-dag c spared doomed place ss over are good =
    not_doomed c.args.dag.now c.args.plan.now ss are c.requires.plan good (c.none_failed.ensures spared doomed place ss over)
