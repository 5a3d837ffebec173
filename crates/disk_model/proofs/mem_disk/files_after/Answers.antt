use Rattle.std.proofs.Common.{◌≡◌, List, ◌∷◌, [], ◌++◌, sym, ◌∙◌, ap, subst, arith, ℕ, ◌+◌, length, get_or}
use Rattle.std.proofs.lemmas.List.{length_push}
use Rattle.disk_model.specs.declared.mem_file.MemFile.{MemFile}
use Rattle.disk_model.specs.MemFile.{state_of}
use Rattle.disk_model.specs.Tear.{IsCrashOf}
use Rattle.disk_model.proofs.Tears.{crash_of_one_more, crash_of_all}
use Rattle.disk_model.proofs.mem_disk.files_after.Goals as goal

pub loop-file-preserved : goal.loop-file-preserved
loop-file-preserved c =
    let pushed : c.push.new.self.items ≡ c.loop-file.after.items ++ c.in_ok-crashed.field-0 ∷ [] = c.in_ok-push.ensures.items in
    record {
      size = ap length pushed ∙ length_push c.loop-file.after.items c.in_ok-crashed.field-0 ∙ ap (λ (n : ℕ). n + 1) c.loop-file.invariant.size;
      each = λ f below. subst (λ (after : List MemFile). IsCrashOf c.args.tear (state_of c.args.files.now.items f) (state_of after f)) (sym pushed)
          (crash_of_one_more c.args.tear c.args.files.now.items c.loop-file.after.items c.file-item.result c.in_ok-crashed.field-0 c.loop-file.file-index c.loop-file.invariant.size (omega arith) (subst (λ (l : List MemFile). c.file-item.result ≡ get_or l c.loop-file.file-index c.file-item.result) c.deref-file-items.ensures.value c.file-item.is) c.in_ok-crashed.ensures c.loop-file.invariant.each f below);
    }

pub returns : goal.returns
returns c = crash_of_all c.args.tear c.args.files.now.items c.loop-file.after.items c.loop-file.file-index c.loop-file.invariant.size (omega arith) c.loop-file.invariant.each
