pub mod MeaningViews
