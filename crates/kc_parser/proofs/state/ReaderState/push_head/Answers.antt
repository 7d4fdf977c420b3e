use Rattle.kc_parser.proofs.Common.{refl, arith, common_steps, node_expr, of_head, config, choice, menu, condition, comment, mainmenu, ends}
use Rattle.kc_parser.proofs.HeadSteps.{head_pushed}
use Rattle.kc_parser.proofs.StatementSteps.{head_given}
use Rattle.kc_parser.proofs.state.ReaderState.push_head.Goals as goal

pub returns-in-Config : goal.returns-in-Config
returns-in-Config c =
    record {
      appends = λ r before d. rw (c.without_path.ensures, c.in-Config.is)
          (head_given r c.args.at.file c.args.at.line before (config c.in-Config.name.now) _ c.push_config.result refl (c.push_config.ensures r before d));
    }

pub returns-in-Choice : goal.returns-in-Choice
returns-in-Choice c =
    record {
      appends = λ r before d. rw (c.without_path-in-Choice.ensures, c.in-Choice.is)
          (head_given r c.args.at.file c.args.at.line before choice _ c.push_choice.result refl (c.push_choice.ensures r before d));
    }

pub returns-in-Menu : goal.returns-in-Menu
returns-in-Menu c =
    record {
      appends = λ r before d. rw (c.without_path-in-Menu.ensures, c.in-Menu.is)
          (head_given r c.args.at.file c.args.at.line before (menu c.in-Menu.title) _ c.push_menu.result refl (c.push_menu.ensures r before d));
    }

pub returns-in-Condition : goal.returns-in-Condition
returns-in-Condition c =
    record {
      appends = λ r before d. rw (c.without_path-in-Condition.ensures, c.in-Condition.is)
          (head_given r c.args.at.file c.args.at.line before (condition (node_expr c.args.self.now.listing.names.arena c.in-Condition.id)) _
          c.push_if_block.result refl
          (c.push_if_block.ensures.appends r before d));
    }

pub returns-in-Comment : goal.returns-in-Comment
returns-in-Comment c =
    record {
      appends = λ r before d. rw (c.without_path-in-Comment.ensures, c.in-Comment.is)
          (head_given r c.args.at.file c.args.at.line before (comment c.in-Comment.title) _ c.push_comment.result refl (c.push_comment.ensures r before d));
    }

pub returns-in-Mainmenu : goal.returns-in-Mainmenu
returns-in-Mainmenu c =
    record {
      appends = λ r before d. rw (c.without_path-in-Mainmenu.ensures, c.in-Mainmenu.is)
          (head_given r c.args.at.file c.args.at.line before mainmenu _ c.push_plain.result refl
          (head_pushed r c.args.at.file c.args.at.line before mainmenu _ c.push_plain.result refl
          (c.push_plain.ensures.appends r before (of_head mainmenu) d refl refl refl) c.push_plain.ensures.memory));
    }

pub returns-in-Ends : goal.returns-in-Ends
returns-in-Ends c =
    record {
      appends = λ r before d. rw (c.without_path-in-Ends.ensures, c.in-Ends.is)
          (head_given r c.args.at.file c.args.at.line before (ends c.in-Ends.block) _ c.push_end.result refl
          (head_pushed r c.args.at.file c.args.at.line before (ends c.in-Ends.block) _ c.push_end.result refl
          (c.push_end.ensures.appends r before (of_head (ends c.in-Ends.block)) d refl refl) c.push_end.ensures.memory));
    }

pub returns-in-Source : goal.returns-in-Source
returns-in-Source c = grind (arith, common_steps)

pub push_if_block-requires : goal.push_if_block-requires
push_if_block-requires c = grind (arith, common_steps)
