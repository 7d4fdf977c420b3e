use Rattle.std.proofs.Common.{◌∙◌, arith}
use Rattle.kc_tree_model.proofs.WordLemmas.{of_that_length, other_length}
use Rattle.kc_tree_model.proofs.keyword.keyword_named.Goals as goal

pub returns-in-2 : goal.returns-in-2
returns-in-2 c = c.keyword_of_two.ensures.value ∙ of_that_length 2 c.args.word.now c.in-2.is

pub returns-in-3 : goal.returns-in-3
returns-in-3 c = c.keyword_of_three.ensures.value ∙ of_that_length 3 c.args.word.now c.in-3.is

pub returns-in-4 : goal.returns-in-4
returns-in-4 c = c.keyword_of_four.ensures.value ∙ of_that_length 4 c.args.word.now c.in-4.is

pub returns-in-5 : goal.returns-in-5
returns-in-5 c = c.keyword_of_five.ensures.value ∙ of_that_length 5 c.args.word.now c.in-5.is

pub returns-in-6 : goal.returns-in-6
returns-in-6 c = c.keyword_of_six.ensures.value ∙ of_that_length 6 c.args.word.now c.in-6.is

pub returns-in-7 : goal.returns-in-7
returns-in-7 c = c.keyword_of_seven.ensures.value ∙ of_that_length 7 c.args.word.now c.in-7.is

pub returns-in-8 : goal.returns-in-8
returns-in-8 c = c.keyword_of_eight.ensures.value ∙ of_that_length 8 c.args.word.now c.in-8.is

pub returns-in-9 : goal.returns-in-9
returns-in-9 c = c.keyword_of_nine.ensures.value ∙ of_that_length 9 c.args.word.now c.in-9.is

pub returns-in-10 : goal.returns-in-10
returns-in-10 c = c.keyword_of_ten.ensures.value ∙ of_that_length 10 c.args.word.now c.in-10.is

pub returns-in-12 : goal.returns-in-12
returns-in-12 c = c.keyword_of_twelve.ensures.value ∙ of_that_length 12 c.args.word.now c.in-12.is

pub returns-in_default : goal.returns-in_default
returns-in_default c =
    other_length c.args.word.now (λ q. omega (arith, q)) (λ q. omega (arith, q)) (λ q. omega (arith, q)) (λ q. omega (arith, q)) (λ q. omega (arith, q))
    (λ q. omega (arith, q)) (λ q. omega (arith, q)) (λ q. omega (arith, q)) (λ q. omega (arith, q)) (λ q. omega (arith, q))
