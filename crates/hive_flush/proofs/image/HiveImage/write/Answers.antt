use Rattle.std.proofs.Common.{◌≡◌, ℕ, List, length, refl, sym, ap, subst, ◌∙◌}
use Rattle.std.proofs.lemmas.Result.{on_ok_weaker}
use Rattle.base_block.specs.declared.block.TheConstants.{MINOR_VERSION}
use Rattle.disk_model.specs.StoreFiles.{primary_file, log_file}
use Rattle.hive_load.specs.Limits.{BinsEncodeTreeInLimits}
use Rattle.hive_files.specs.FreshFiles.{FilesAreMade}
use Rattle.hive_flush.specs.Creation.{AreMadeFor, block_as_made}
use Rattle.hive_flush.proofs.Created.{Created, created}
use Rattle.hive_flush.proofs.image.HiveImage.write.Goals as goal

-- the block that is written of an image, for a store
block_is : (image_store store : List ℕ) (image_number number minor root size : ℕ) (bins : List ℕ) → image_store ≡ store → image_number ≡ number → size ≡ length bins
    → block_as_made image_store image_number minor root size ≡ block_as_made store number minor root (length bins)
block_is image_store store image_number number minor root size bins same at many =
    ap (λ (s : List ℕ). block_as_made s image_number minor root size) same ∙ ap (λ (n : ℕ). block_as_made store n minor root size) at ∙ ap (λ (n : ℕ). block_as_made store number minor root n) many

pub returns-clause-created : goal.returns-clause-created
returns-clause-created g c = on_ok_weaker c.make.result (λ made_if faithful store tree number of.
    let image = c.args.self.now in
    let bins = image.bins.items in
    let block = c.base_block-block.result in
    let primary = g.D.Disk.state_at c.make.new.disk (g.D.Disk.clock c.make.new.disk) (primary_file c.args.hive) in
    let log = g.D.Disk.state_at c.make.new.disk (g.D.Disk.clock c.make.new.disk) (log_file c.args.hive) in
    let size : c.len-size.result ≡ length bins = c.len-size.ensures ∙ sym c.deref.ensures.len ∙ ap (λ (l : List ℕ). length l) c.deref.ensures.value in
    let is : block ≡ block_as_made store number image.minor image.root (length bins) = c.base_block-block.ensures ∙ block_is image.store store image.number number image.minor image.root c.len-size.result bins of.store_is of.number_is size in
    let made : FilesAreMade block bins primary log = subst (λ (l : List ℕ). FilesAreMade block l primary log) c.deref.ensures.value (made_if faithful) in
    let stands : BinsEncodeTreeInLimits bins image.root image.minor tree = subst (λ (m : ℕ). BinsEncodeTreeInLimits bins image.root m tree) (sym of.minor_is) of.stands in
    let it = created store number image.minor image.root bins tree block c.sector.result primary log is c.sector.ensures.encoding c.sector.ensures.long c.sector.ensures.again image.oldest image.newest image.size stands made in
    record { root = image.root; bins = bins; made = subst (λ (m : ℕ). AreMadeFor store number m image.root bins primary log) of.minor_is it.made; holds = it.holds }) c.make.ensures.made

pub returns-clause-copied : goal.returns-clause-copied
returns-clause-copied g c = on_ok_weaker c.make.result (λ made_if faithful store file tree of.
    let image = c.args.self.now in
    let bins = image.bins.items in
    let block = c.base_block-block.result in
    let primary = g.D.Disk.state_at c.make.new.disk (g.D.Disk.clock c.make.new.disk) (primary_file c.args.hive) in
    let log = g.D.Disk.state_at c.make.new.disk (g.D.Disk.clock c.make.new.disk) (log_file c.args.hive) in
    let size : c.len-size.result ≡ length bins = c.len-size.ensures ∙ sym c.deref.ensures.len ∙ ap (λ (l : List ℕ). length l) c.deref.ensures.value in
    let is : block ≡ block_as_made store 0 image.minor image.root (length bins) = c.base_block-block.ensures ∙ block_is image.store store image.number 0 image.minor image.root c.len-size.result bins of.store_is of.number_is size in
    let made : FilesAreMade block bins primary log = subst (λ (l : List ℕ). FilesAreMade block l primary log) c.deref.ensures.value (made_if faithful) in
    let it = created store 0 image.minor image.root bins tree block c.sector.result primary log is c.sector.ensures.encoding c.sector.ensures.long c.sector.ensures.again image.oldest image.newest image.size of.stands made in
    record {
      block = of.block;
      bins = bins;
      has = of.has;
      made = subst (λ (m : ℕ). AreMadeFor store 0 m of.block.root bins primary log) of.minor_is (subst (λ (r : ℕ). AreMadeFor store 0 image.minor r bins primary log) of.root_is it.made);
      holds = it.holds;
    }) c.make.ensures.made
