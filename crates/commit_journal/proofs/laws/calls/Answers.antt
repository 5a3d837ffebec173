use Rattle.commit_journal.proofs.Calls as calls
use Rattle.commit_journal.proofs.laws.calls.Goals as goal

pub returns : goal.returns
returns g c = record {
  body_ok = λ t now then gate ahead old new. calls.body_ok t now then gate ahead old new;
  body_failed = λ t now then gate ahead old new. calls.body_failed t now then gate ahead old new;
  body_synced = λ t now then gate ahead old new. calls.body_synced t now then gate ahead old new;
  gate_ok = λ t now then gate ahead old new. calls.gate_ok t now then gate ahead old new;
  gate_failed = λ t now then gate ahead old new. calls.gate_failed t now then gate ahead old new;
  gate_synced = λ t now then gate ahead old new. calls.gate_synced t now then gate ahead old new;
  sync_failed = λ t now then gate ahead old new. calls.sync_failed t now then gate ahead old new;
  trim_ok = λ t now then gate ahead old new. calls.trim_ok t now then gate ahead old new;
  trim_failed = λ t now then gate ahead old new. calls.trim_failed t now then gate ahead old new;
  trim_synced = λ t now gate old new. calls.trim_synced t now gate old new;
}
