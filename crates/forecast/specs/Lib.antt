pub mod Forecast
