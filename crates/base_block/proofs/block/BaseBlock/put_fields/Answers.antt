-- The fields are put one after the other, with zeros left between two of them.
use Rattle.std.proofs.Common.{ℕ, refl, arith, length-append}
use Rattle.std.proofs.Math.ListN.{length-replicate}
use Rattle.base_block.specs.Layout.{body_of, head_of, zeros}
use Rattle.base_block.proofs.Sectors.{laid_none, laid_gap, laid_more}
use Rattle.base_block.proofs.block.BaseBlock.put_fields.Goals as goal

pub returns-clause-put : goal.returns-clause-put
unfolding body_of head_of
returns-clause-put c =
    let s0 = laid_none 512 _ c.requires in
    let s1 = laid_more _ _ _ _ 0 4 508 c.put_u32.ensures.put refl s0 in
    let s2 = laid_more _ _ _ _ 4 4 504 c.put_u32-2.ensures.put refl s1 in
    let s3 = laid_more _ _ _ _ 8 4 500 c.put_u32-3.ensures.put refl s2 in
    let s4 = laid_more _ _ _ _ 12 8 492 c.put_u64.ensures.put refl s3 in
    let s5 = laid_more _ _ _ _ 20 4 488 c.put_u32-4.ensures.put refl s4 in
    let s6 = laid_more _ _ _ _ 24 4 484 c.put_u32-5.ensures.put refl s5 in
    let s7 = laid_more _ _ _ _ 28 4 480 c.put_u32-6.ensures.put refl s6 in
    let s8 = laid_more _ _ _ _ 32 4 476 c.put_u32-7.ensures.put refl s7 in
    let s9 = laid_more _ _ _ _ 36 4 472 c.put_u32-8.ensures.put refl s8 in
    let s10 = laid_more _ _ _ _ 40 4 468 c.put_u32-9.ensures.put refl s9 in
    let s11 = laid_more _ _ _ _ 44 4 464 c.put_u32-10.ensures.put refl s10 in
    let s12 = laid_gap _ _ 48 128 336 s11 in
    let s13 = laid_more _ _ _ _ 176 16 320 c.put_store.ensures.put c.put_store.ensures.long s12 in
    let s14 = laid_more _ _ _ _ 192 8 312 c.put_u64-2.ensures.put refl s13 in
    let s15 = laid_gap _ _ 200 308 4 s14 in
    s15.parts

pub returns-clause-long : goal.returns-clause-long
unfolding body_of head_of zeros
returns-clause-long c =
    simp (length-append, length-replicate {A = ℕ}) (omega (arith, c.put_store.ensures.long))
