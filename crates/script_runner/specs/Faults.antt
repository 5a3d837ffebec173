-- Replies that report the device.
use Rattle.std.specs.Prelude.{Bool, false}
use Rattle.reply_lines.specs.declared.reply.ReplyLine.{ReplyLine}
use Rattle.reply_lines.specs.declared.reply.ReplyLine.TheVariants as reply
use Rattle.store_model.specs.Machine.{is_of_device}

-- whether a reply reports that the device failed in this call, or in an earlier one
abbrev pub is_device_reply : ReplyLine → Bool
is_device_reply (reply.Refused refusal) = is_of_device refusal
is_device_reply _ = false
