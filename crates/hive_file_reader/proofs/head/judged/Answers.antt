use Rattle.std.proofs.Common.{refl, sym, subst, ◌∙◌}
use Rattle.std.proofs.lemmas.Bool.{eqb-false, not-true}
use Rattle.hive_file_reader.specs.Hives.{FileLacksBins}
use Rattle.hive_file_reader.proofs.Files.{told_no_sector, told_no_signature, told_not_clean, told_not_usable, told_block, told_cut}
use Rattle.hive_file_reader.proofs.head.judged.Goals as goal

pub returns-in_default : goal.returns-in_default
returns-in_default c = λ file is. subst (FileLacksBins file) (sym c.from.ensures) (told_no_sector file c.args.head.now is c.in_default.ensures.none)

pub returns-then-ne : goal.returns-then-ne
returns-then-ne c = λ file is. subst (FileLacksBins file) (sym c.from-then-ne.ensures) (told_no_signature file c.args.head.now c.in-Some.block is c.in-Some.ensures.some.1 c.in-Some.ensures.some.0 (eqb-false c.in-Some.block.signature.0 0x6667_6572 (not-true _ (sym c.ne.ensures ∙ c.if-ne.true))))

pub returns-then-not-is_clean : goal.returns-then-not-is_clean
returns-then-not-is_clean c = λ file is. subst (FileLacksBins file) (sym c.from-then-not-is_clean.ensures) (told_not_clean file c.args.head.now c.in-Some.block is c.in-Some.ensures.some.1 c.in-Some.ensures.some.0 (sym c.if-not-is_clean.ensures))

pub returns-in-Err : goal.returns-in-Err
returns-in-Err c = λ file is. told_not_usable file c.args.head.now c.in-Some.block c.in-Err.why is c.in-Some.ensures.some.1 c.in-Some.ensures.some.0 (sym c.if-not-is_clean.ensures) c.in-Err.ensures.why

pub returns-then-head-lt-HEAD_BYTES : goal.returns-then-head-lt-HEAD_BYTES
returns-then-head-lt-HEAD_BYTES c = λ file is. subst (FileLacksBins file) (sym c.from-then-head-lt-HEAD_BYTES.ensures)
    (told_cut file c.args.head.now c.in-Some.block is (told_block file c.args.head.now c.in-Some.block is c.in-Some.ensures.some.1 c.in-Some.ensures.some.0 (sym c.if-not-is_clean.ensures) (c.in-Ok.ensures.ok.0 refl)) c.if-head-lt-HEAD_BYTES.true)

pub returns : goal.returns
returns c = λ file is. (told_block file c.args.head.now c.in-Some.block is c.in-Some.ensures.some.1 c.in-Some.ensures.some.0 (sym c.if-not-is_clean.ensures) (c.in-Ok.ensures.ok.0 refl), c.if-head-lt-HEAD_BYTES.false)
