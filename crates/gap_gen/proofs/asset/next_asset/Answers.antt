-- The three words are those of the asset.
use Rattle.std.proofs.Common.{ℕ, ◌+◌, ◌%◌, ap, ◌∙◌, pos, ◌-ℤ◌, w32, FitsSigned}
use Rattle.std.proofs.lemmas.Int.{to_z-of_z}
use Rattle.gap_gen.proofs.DrawLaws.{three_words}
use Rattle.gap_gen.proofs.asset.next_asset.Goals as goal

pub returns-clause-asset : goal.returns-clause-asset
returns-clause-asset c = λ g i e.
    let fm : FitsSigned w32 c.mean.result = record { sfits = c.mean.type_inv } in
    let t = three_words g i c.next_word-first.result c.next_word-second.result c.next_word-third.result c.args.words.now c.next_word-first.new.self c.next_word-second.new.self c.next_word-third.new.self c.next_word-first.ensures c.next_word-second.ensures c.next_word-third.ensures e in
    record {
      load_is = c.load.ensures.value ∙ ap (λ (w : ℕ). 200 + w % 701) t.first;
      mean_is = to_z-of_z w32 c.mean.result fm ∙ c.mean.ensures.value ∙ ap (λ (w : ℕ). pos (w % 10001) -ℤ pos 2000) t.second;
      deviation_is = ap (λ (w : ℕ). 20000 + w % 60001) t.third;
    }

pub returns-clause-after : goal.returns-clause-after
returns-clause-after c = λ g i e.
    (three_words g i c.next_word-first.result c.next_word-second.result c.next_word-third.result c.args.words.now c.next_word-first.new.self c.next_word-second.new.self c.next_word-third.new.self c.next_word-first.ensures c.next_word-second.ensures c.next_word-third.ensures e).next
