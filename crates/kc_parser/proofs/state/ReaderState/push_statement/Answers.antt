use Rattle.kc_parser.proofs.Common.{arith, common_steps, attribute_in}
use Rattle.kc_parser.proofs.StatementSteps.{attribute_given}
use Rattle.kc_parser.proofs.state.ReaderState.push_statement.Goals as goal

pub returns-in-Attribute : goal.returns-in-Attribute
returns-in-Attribute c =
    record {
      appends = λ r before d. rw (c.without_path.ensures, c.in-Attribute.is)
          (attribute_given r c.args.at.file c.args.at.line before (attribute_in c.args.self.now.listing.names.arena c.in-Attribute.attribute) _
          c.push_attribute.result
          (c.push_attribute.ensures.appends r before d));
    }

pub push_attribute-requires : goal.push_attribute-requires
push_attribute-requires c = grind (arith, common_steps)

pub push_head-requires : goal.push_head-requires
push_head-requires c = grind (arith, common_steps)

pub returns-in-Head : goal.returns-in-Head
returns-in-Head c = grind (arith, common_steps)
