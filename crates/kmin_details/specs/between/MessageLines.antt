-- The messages of the code.
use Rattle.kmin_messages.specs.Messages.{Message}
use Rattle.kmin_messages.specs.ShownTexts.{shown}
use Rattle.kmin_messages.specs.between.MessageViews.{bytes_of}
use Rattle.kmin_details.specs.declared.message_lines.MessageParts.{MessageParts}
use Rattle.kmin_details.specs.between.Details.{detail_text, detail_names}

-- the message with these parts, whose text shows the detail
abbrev pub message_of_parts : MessageParts → Message
message_of_parts parts = record {
  kind = parts.kind.now;
  severity = parts.severity;
  file = bytes_of parts.file;
  line = parts.line;
  text = shown (detail_text parts.detail);
  names = detail_names parts.detail;
}
