use Rattle.std.proofs.Common.{arith, rules}
use Rattle.goblin_base.specs.declared.endian.Endian.TheVariants.{Little}
use Rattle.goblin_base.proofs.RecordItems.{length-records_in}
use Rattle.goblin_pe_sect.specs.BaseRelocations.{word_record}
use Rattle.goblin_pe_c_headers.specs.Words.{word_for_c, words_for_c}
use Rattle.goblin_pe_c_headers.proofs.GivenWords.{given-few, words_given}
use Rattle.goblin_pe_c_headers.proofs.word.next_words.Goals as goal

pub overflow_mul-cursor : goal.overflow_mul-cursor
overflow_mul-cursor c =
    let page = c.args.cursor.now.page_rva in
    let words = c.words_at-words.result.now in
    let count = length-records_in 2 (λ bytes. word_for_c page (word_record Little bytes)) words in
    let short = c.words_at-words.ensures.short in
    let few = given-few (words_for_c page words) _ _ _ c.fill_onward-batch.result (c.fill_onward-batch.ensures (words_for_c page words) (omega (arith, count, short)) (search rules)) in
    omega (arith, few, count, short)

pub overflow_add-cursor : goal.overflow_add-cursor
overflow_add-cursor c =
    let page = c.args.cursor.now.page_rva in
    let words = c.words_at-words.result.now in
    let count = length-records_in 2 (λ bytes. word_for_c page (word_record Little bytes)) words in
    let short = c.words_at-words.ensures.short in
    let room = c.words_at-words.ensures.room in
    let few = given-few (words_for_c page words) _ _ _ c.fill_onward-batch.result (c.fill_onward-batch.ensures (words_for_c page words) (omega (arith, count, short)) (search rules)) in
    omega (arith, few, count, short, room)

pub returns : goal.returns
returns c =
    let page = c.args.cursor.now.page_rva in
    let words = c.words_at-words.result.now in
    let count = length-records_in 2 (λ bytes. word_for_c page (word_record Little bytes)) words in
    words_given c.args.image.now.bytes.now c.args.cursor.now c.args.records.now c.fill_onward-batch.new.records c.fill_onward-batch.new.position c.fill_onward-batch.result words c.words_at-words.ensures.value
    (c.fill_onward-batch.ensures (words_for_c page words) (omega (arith, count, c.words_at-words.ensures.short)) (search rules))
