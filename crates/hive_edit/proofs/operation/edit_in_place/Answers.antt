use Rattle.std.proofs.Common.{sym, ◌∙◌}
use Rattle.reg_tree.specs.declared.op.Op.TheVariants.{CreateKey, DeleteKey, SetValue}
use Rattle.hive_edit.proofs.SaidOps.{said_set, said_deleted, said_created, said_gone, legal_said, presence_said}
use Rattle.hive_edit.proofs.operation.edit_in_place.Goals as goal

pub returns-in-CreateKey-clause-done : goal.returns-in-CreateKey-clause-done
returns-in-CreateKey-clause-done c = λ is tree encodes.
    said_created c.create_key.new.image.bytes c.args.root tree c.args.op.now c.in-CreateKey.hive c.in-CreateKey.path c.names.result.now c.args.moment c.names.ensures.names c.in-CreateKey.is
    (let said = c.in-CreateKey.is ∙ (λ i. CreateKey c.in-CreateKey.hive (sym c.names.ensures.names i)) in
    let other = CreateKey c.in-CreateKey.hive c.names.result.now in
    c.create_key.ensures.done is c.in-CreateKey.hive tree encodes.0
    (legal_said c.args.image.now.bytes c.args.root c.args.op.now other c.args.presence.now c.requires.stands tree encodes.0 said)
    (presence_said c.args.image.now.bytes c.args.root c.args.op.now other c.args.presence.now c.requires.stands tree encodes.0 said).names)

pub returns-in-DeleteKey-clause-done : goal.returns-in-DeleteKey-clause-done
returns-in-DeleteKey-clause-done c = λ is tree encodes.
    said_gone c.delete_key.new.image.bytes c.args.root tree c.args.op.now c.in-DeleteKey.hive c.in-DeleteKey.path c.names-in-DeleteKey.result.now c.args.moment c.names-in-DeleteKey.ensures.names c.in-DeleteKey.is
    (c.delete_key.ensures.done is c.in-DeleteKey.hive tree encodes.0
    (legal_said c.args.image.now.bytes c.args.root c.args.op.now (DeleteKey c.in-DeleteKey.hive c.names-in-DeleteKey.result.now) c.args.presence.now c.requires.stands tree encodes.0
    (c.in-DeleteKey.is ∙ (λ i. DeleteKey c.in-DeleteKey.hive (sym c.names-in-DeleteKey.ensures.names i)))))

pub returns-then-presence-clause-done : goal.returns-then-presence-clause-done
returns-then-presence-clause-done c = λ is tree encodes.
    said_set c.set_value.new.image.bytes c.args.root tree c.args.op.now c.in-SetValue.hive c.in-SetValue.path c.names-then-presence.result.now c.args.moment c.names-then-presence.ensures.names
    c.in-SetValue.name c.name.result.now c.in-SetValue.kind c.in-SetValue.data c.bytes.result.now c.in-SetValue.is c.name.ensures.same c.bytes.ensures
    (c.set_value.ensures.done is c.in-SetValue.hive tree encodes.0)

pub returns-else-presence-clause-done : goal.returns-else-presence-clause-done
returns-else-presence-clause-done c = λ is tree encodes.
    said_set c.add_value.new.image.bytes c.args.root tree c.args.op.now c.in-SetValue.hive c.in-SetValue.path c.names-else-presence.result.now c.args.moment c.names-else-presence.ensures.names
    c.in-SetValue.name c.name.result.now c.in-SetValue.kind c.in-SetValue.data c.bytes.result.now c.in-SetValue.is c.name.ensures.same c.bytes.ensures
    (c.add_value.ensures.done is c.in-SetValue.hive tree encodes.0
    (sym (presence_said c.args.image.now.bytes c.args.root c.args.op.now (SetValue c.in-SetValue.hive c.names-else-presence.result.now c.name.result.now c.in-SetValue.kind c.in-SetValue.data) c.args.presence.now c.requires.stands tree encodes.0
    (c.in-SetValue.is ∙ (λ i. SetValue c.in-SetValue.hive (sym c.names-else-presence.ensures.names i) (sym c.name.ensures.same i) c.in-SetValue.kind c.in-SetValue.data))).value
    ∙ c.if-presence.false))

pub returns-in-DeleteValue-clause-done : goal.returns-in-DeleteValue-clause-done
returns-in-DeleteValue-clause-done c = λ is tree encodes.
    said_deleted c.delete_value.new.image.bytes c.args.root tree c.args.op.now c.in-DeleteValue.hive c.in-DeleteValue.path c.names-in-DeleteValue.result.now c.args.moment c.names-in-DeleteValue.ensures.names
    c.in-DeleteValue.name c.name-in-DeleteValue.result.now c.in-DeleteValue.is c.name-in-DeleteValue.ensures.same
    (c.delete_value.ensures.done is c.in-DeleteValue.hive tree encodes.0)
