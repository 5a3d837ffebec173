use Rattle.shared_store.proofs.workers.fn.run_workers.scope.Given as goal

abbrev pub invariant-loop-index : goal.invariant-loop-index
invariant-loop-index g l = Unit {0}
